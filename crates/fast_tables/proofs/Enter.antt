-- Rule B by vertices of the drawing.
use mathlib.Core.Path.{◌≡◌, refl, sym, ap, ◌∙◌}
use mathlib.Core.Bool.{Bool, true, false, not, ◌&&◌, true≢false}
use Prim.Native.Nat.{ℕ, ◌<◌}
use native.Mathlib.Omega.{arith}
use lib.ListN.{length, get_or}
use Rattle.lists.specs.Lists.{any, upto, member}
use Rattle.lists.proofs.Truth.{and_left, and_right, and_both, same_truth}
use Rattle.lists.proofs.Passing.{any_yes, any_is, some_yes, some_is}
use Rattle.paper.specs.Points.{origin, is_zero}
use Rattle.paper.specs.Polygon.{plane_side, exactly, lies, is_inside}
use Rattle.paper.specs.Drawing.{Wire, at}
use Rattle.paper.specs.Loops.{Loop, polygon}
use Rattle.paper.specs.Clash.{enters}
use Rattle.paper.specs.declared.Point.{Point}
use Rattle.paper.specs.declared.Where.TheVariants.{Border}
use Rattle.paper_laws.proofs.Wires.{polygon_length, corner-at}
use Rattle.fast_tables.specs.Paths.{Path}
use Rattle.fast_tables.specs.Hits.{vertex_inside, entered_by}
use Rattle.fast_tables.proofs.Rounds.{member_yes, member_is}
use Rattle.fast_tables.proofs.Border.{corner_border}

module _ (d : Wire) where
  pub vertex_border : (l : Loop) (v : ℕ) → member v l ≡ true → lies (exactly (at d v)) (polygon d l) ≡ Border
  vertex_border l v e =
      let r = member_yes v l e in
      corner_border (polygon d l) r.0 (omega (arith, r.1, polygon_length d l)) (at d v) (corner-at d l r.0 r.1 ∙ ap (at d) r.2)

  -- a corner is not strictly inside
  pub inside_new : (l : Loop) (v : ℕ) → is_inside (lies (exactly (at d v)) (polygon d l)) ≡ true → not (member v l) ≡ true
  unfolding is_inside
  inside_new l v e = go (member v l) refl
    where
      go : (b : Bool) → member v l ≡ b → not b ≡ true
      go false t = refl
      go true t = absurd (true≢false (sym e ∙ ap is_inside (vertex_border l v t)))

  pub enters_vertices : (f : Loop) → Path d f → (g : Loop) → enters (polygon d f) (polygon d g) ≡ entered_by d g f
  unfolding enters entered_by vertex_inside
  enters_vertices f path g = same_truth _ _ forth back
    where
      test : Point → Bool
      test p = is_zero (plane_side (polygon d g) p) && is_inside (lies (exactly p) (polygon d g))

      forth : any test (polygon d f) ≡ true
          → any (λ v. member v f && (not (member v g) && test (at d v))) (upto (length d.vertices)) ≡ true
      forth e =
          let r = any_yes test origin (polygon d f) e in
          let h : r.0 < length f = omega (arith, r.1, polygon_length d f) in
          let v = get_or f r.0 0 in
          let t : test (at d v) ≡ true = ap test (sym (corner-at d f r.0 h)) ∙ r.2 in
          some_is (λ v. member v f && (not (member v g) && test (at d v))) (length d.vertices) v (path.below r.0 h)
          (and_both (member_is v f r.0 h refl)
          (and_both
          (inside_new g v (and_right (is_zero (plane_side (polygon d g) (at d v))) (is_inside (lies (exactly (at d v)) (polygon d g))) t))
          t))

      back : any (λ v. member v f && (not (member v g) && test (at d v))) (upto (length d.vertices)) ≡ true
          → any test (polygon d f) ≡ true
      back e =
          let r = some_yes (λ v. member v f && (not (member v g) && test (at d v))) (length d.vertices) e in
          let v = r.0 in
          let s = member_yes v f (and_left (member v f) (not (member v g) && test (at d v)) r.2) in
          let t : test (at d v) ≡ true = and_right (not (member v g)) (test (at d v))
          (and_right (member v f) (not (member v g) && test (at d v)) r.2) in
          any_is test origin (polygon d f) s.0 (omega (arith, s.1, polygon_length d f))
          (ap test (corner-at d f s.0 s.1 ∙ ap (at d) s.2) ∙ t)

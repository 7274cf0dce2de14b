-- Cover by the drawing's vertices and edges.
use mathlib.Core.Path.{◌≡◌, refl, sym, ap, ap₂, ◌∙◌}
use mathlib.Core.Bool.{Bool, true, false, not, ◌&&◌, ◌||◌}
use mathlib.Core.Logic.{◌⊎◌, inl, inr}
use mathlib.Core.List.{List, [], ◌∷◌}
use Prim.Native.Nat.{ℕ, ◌+◌, ◌<◌}
use native.Mathlib.Omega.{arith}
use lib.ListN.{length, get_or}
use Rattle.lists.specs.Lists.{any, all, sides, sides_from, any_true, upto, member}
use Rattle.lists.specs.Around.{wrap, around}
use Rattle.lists.proofs.Places.{any_same}
use Rattle.lists.proofs.Passing.{each_yes, all_yes, all_is}
use Rattle.lists.proofs.Sides.{sides_map, wrap-below}
use Rattle.lists.proofs.Truth.{implied, same_truth}
use Rattle.paper.specs.Points.{origin, is_zero}
use Rattle.paper.specs.Polygon.{plane_side, one_plane, Ratio, midpoint, lies, is_outside, covers}
use Rattle.paper.specs.Drawing.{Wire, Edge, edge, at}
use Rattle.paper.specs.Loops.{Loop, polygon}
use Rattle.paper.specs.Solids.{runs, has}
use Rattle.paper.specs.declared.Point.{Point}
use Rattle.paper.specs.declared.Where.TheVariants.{Border}
use Rattle.paper_laws.proofs.Turned.{middle_turned}
use Rattle.fast_tables.specs.Paths.{Path}
use Rattle.fast_tables.specs.Covers.{middle_outside, in_plane_of, covers_by}
use Rattle.fast_tables.proofs.Rounds.{member_yes, member_is, runs_yes, has_cases, of_edge, sides_edges}
use Rattle.fast_tables.proofs.Border.{side_border}
use Rattle.paper_laws.proofs.Wires.{polygon_length, corner-at}

-- ---- every side passes where none fails
all_sides : {A B : Type 0} (t : B → Bool) (f : A → A → B) (l : List A)
    → all (λ m. not (t m)) (sides f l) ≡ not (any_true (sides (λ x y. t (f x y)) l))
unfolding sides sides_from all any_true
all_sides t f [] = refl
all_sides {A} {B} t f (a ∷ r) = go a r
  where
    more : (b c : Bool) → (not b && not c) ≡ not (b || c)
    more true c = refl
    more false c = refl

    go : (x : A) (ys : List A) → all (λ m. not (t m)) (sides_from f a x ys) ≡ not (any_true (sides_from (λ x y. t (f x y)) a x ys))
    go x [] = more (t (f x a)) false
    go x (y ∷ ys) = ap (λ (b : Bool). not (t (f x y)) && b) (go y ys) ∙ more (t (f x y)) (any_true (sides_from (λ x y. t (f x y)) a y ys))

module _ (d : Wire) where
  around-at : (l : Loop) (j : ℕ) → j < length l + length l → around (polygon d l) j origin ≡ at d (around l j 0)
  unfolding around
  around-at l j h =
      ap (λ (n : ℕ). get_or (polygon d l) (wrap n j) origin) (polygon_length d l)
      ∙ corner-at d l (wrap (length l) j) (wrap-below (length l) j h)

  -- the midpoint of a loop's own side is on its border
  middle_border : (l : Loop) (a b : ℕ) → runs a b l ≡ true → lies (midpoint (at d a) (at d b)) (polygon d l) ≡ Border
  middle_border l a b e =
      let r = runs_yes a b l e in
      let h = r.1 in
      let p : around (polygon d l) r.0 origin ≡ at d a = around-at l r.0 (omega (arith, h)) ∙ ap (at d) r.2 in
      let q : around (polygon d l) (r.0 + 1) origin ≡ at d b = around-at l (r.0 + 1) (omega (arith, h)) ∙ ap (at d) r.3 in
      (λ i. lies (midpoint (sym p i) (sym q i)) (polygon d l)) ∙ side_border (polygon d l) r.0 (omega (arith, h, polygon_length d l))

  pub own_middle : (l : Loop) (e : Edge) → has e l ≡ true → middle_outside d l e ≡ false
  unfolding middle_outside is_outside
  own_middle l (edge a b) t = go (has_cases a b l t)
    where
      go : (runs a b l ≡ true) ⊎ (runs b a l ≡ true) → is_outside (lies (midpoint (at d a) (at d b)) (polygon d l)) ≡ false
      go (inl p) = ap is_outside (middle_border l a b p)
      go (inr p) =
          ap (λ (m : Ratio). is_outside (lies m (polygon d l))) (middle_turned (at d a) (at d b)) ∙ ap is_outside (middle_border l b a p)

  module _ (l k : Loop) (path : Path d k) where
    pub plane_by : one_plane (polygon d l) (polygon d k) ≡ in_plane_of d l k
    unfolding one_plane in_plane_of
    plane_by = same_truth _ _ forth back
      where
        test : ℕ → Bool
        test w = not (member w k) || is_zero (plane_side (polygon d l) (at d w))

        forth : all (λ p. is_zero (plane_side (polygon d l) p)) (polygon d k) ≡ true → all test (upto (length d.vertices)) ≡ true
        forth e = all_is test 0 (upto (length d.vertices)) (λ i h. each (get_or (upto (length d.vertices)) i 0))
          where
            each : (w : ℕ) → test w ≡ true
            each w = go (member w k) refl
              where
                go : (b : Bool) → member w k ≡ b → (not b || is_zero (plane_side (polygon d l) (at d w))) ≡ true
                go false q = refl
                go true q =
                    let r = member_yes w k q in
                    let h = r.1 in
                    ap (λ (p : Point). is_zero (plane_side (polygon d l) p)) (sym (corner-at d k r.0 h ∙ ap (at d) r.2))
                    ∙ all_yes (λ p. is_zero (plane_side (polygon d l) p)) origin (polygon d k) e r.0
                    (omega (arith, h, polygon_length d k))

        back : all test (upto (length d.vertices)) ≡ true → all (λ p. is_zero (plane_side (polygon d l) p)) (polygon d k) ≡ true
        back e =
            all_is (λ p. is_zero (plane_side (polygon d l) p)) origin (polygon d k) (λ i h. each i (omega (arith, h, polygon_length d k)))
          where
            each : (i : ℕ) → i < length k → is_zero (plane_side (polygon d l) (get_or (polygon d k) i origin)) ≡ true
            each i h =
                let w = get_or k i 0 in
                let n = length d.vertices in
                let b = path.below i h in
                let t : test w ≡ true = each_yes test n e w b in
                ap (λ (p : Point). is_zero (plane_side (polygon d l) p)) (corner-at d k i h)
                ∙ implied (member w k) (is_zero (plane_side (polygon d l) (at d w))) t (member_is w k i h refl)

    -- some edge of k has its midpoint outside l: its own sides need not be asked
    abbrev out : ℕ → ℕ → Bool
    out a b = is_outside (lies (midpoint (at d a) (at d b)) (polygon d l))

    same : (e : Edge) → (has e k && of_edge out e) ≡ (has e k && middle_outside d l e)
    unfolding middle_outside
    same (edge a b) = refl

    spared : (e : Edge) → (has e k && middle_outside d l e) ≡ (has e k && (not (has e l) && middle_outside d l e))
    spared e = ap (λ (t : Bool). has e k && t) (go (has e l) refl)
      where
        go : (s : Bool) → has e l ≡ s → middle_outside d l e ≡ (not s && middle_outside d l e)
        go false q = refl
        go true q = own_middle l e q

    -- each of k's edges asked, and each but l's own
    pub covers_edges : covers (polygon d l)
        (polygon d k) ≡ (in_plane_of d l k && not (any (λ e. has e k && middle_outside d l e) d.edges))
    unfolding covers polygon
    covers_edges =
        let s : all (λ m. not (is_outside (lies m (polygon d l)))) (sides midpoint (polygon d k)) ≡ not
        (any (λ e. has e k && middle_outside d l e) d.edges)
        = all_sides (λ m. is_outside (lies m (polygon d l))) midpoint (polygon d k)
        ∙ ap (λ (bs : List Bool). not (any_true bs)) (sides_map (λ p q. is_outside (lies (midpoint p q) (polygon d l))) (at d) k)
        ∙ ap not
        (sides_edges d k path out (λ a b. ap (λ (m : Ratio). is_outside (lies m (polygon d l))) (middle_turned (at d a) (at d b))))
        ∙ ap not
        (any_same (λ e. has e k && of_edge out e) (λ e. has e k && middle_outside d l e) d.edges (edge 0 0)
        (λ i h. same (get_or d.edges i (edge 0 0)))) in
        ap₂ ◌&&◌ plane_by s

    pub covers_by_lem : covers (polygon d l) (polygon d k) ≡ covers_by d l k
    unfolding covers_by
    covers_by_lem =
        covers_edges
        ∙ ap (λ (b : Bool). in_plane_of d l k && not b)
        (any_same (λ e. has e k && middle_outside d l e) (λ e. has e k && (not (has e l) && middle_outside d l e)) d.edges (edge 0 0)
        (λ i h. spared (get_or d.edges i (edge 0 0))))

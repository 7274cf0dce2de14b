-- The tests of 11 and 12, vertex by vertex.
use mathlib.Core.Path.{◌≡◌, refl, sym, ◌∙◌, ap}
use mathlib.Core.Bool.{Bool, true, false, not, ◌&&◌, true≢false}
use mathlib.Core.Logic.{◌⊎◌, inl, inr, ◌↔◌}
use mathlib.Core.Option.{none}
use Prim.Native.Nat.{ℕ, ◌<◌}
use native.Mathlib.Decide.{ℕ_discrete}
use borrow.Author.Tests.{eqb-true, eq-eqb, ne_eqb, not-true}
use lib.Dec.{eqb}
use lib.ListN.{length}
use Rattle.lists.specs.Lists.{any, upto}
use Rattle.lists.proofs.Truth.{and_left, and_right, and_both, or_left, or_right, or_cases, never_true}
use Rattle.lists.proofs.Passing.{any_yes, any_is, some_yes, some_is}
use Rattle.paper.specs.Points.{minus, same_point}
use Rattle.paper.specs.Drawing.{Wire, Edge, edge, at, edge_at, ends, same_place, loose_vertex}
use Rattle.paper_laws.proofs.Points.{origin_yes, origin_is, point_eq, point_diff}
use Rattle.means_drawing.specs.Drawings.{Finds, start, stop, HasEdge, EndOf, Doubled, Loose}
use Rattle.means_drawing.specs.Rules.{Passes11, Passes12}
use Rattle.means_drawing.proofs.Searches.{finds, finds_none}

module _ (d : Wire) where
  abbrev n : ℕ
  n = length d.vertices

  -- ---- 11

  abbrev doubles : ℕ → ℕ → Bool
  doubles u v = not (eqb u v) && same_point (at d u) (at d v)

  doubled : (u : ℕ) → u < n → (any (doubles u) (upto n) ≡ true) ↔ Doubled d u
  unfolding same_point
  doubled u h = (to, of)
    where
      to : any (doubles u) (upto n) ≡ true → Doubled d u
      to e =
          let r = some_yes (doubles u) n e in
          let w = r.0 in
          let a = and_left (not (eqb u w)) (same_point (at d u) (at d w)) r.2 in
          let ne : u ≡ w → ⊥ = λ q. true≢false (sym (eq-eqb u w q) ∙ not-true (eqb u w) a) in
          let b = and_right (not (eqb u w)) (same_point (at d u) (at d w)) r.2 in
          (w, r.1, ne, point_eq (at d u) (at d w) (origin_yes (minus (at d u) (at d w)) b))

      of : Doubled d u → any (doubles u) (upto n) ≡ true
      of (w, l, ne, e) = some_is (doubles u) n w l (and_both (ap not (ne_eqb u w ne)) (origin_is (point_diff e)))

  pub same_place_finds : Finds (Doubled d) n (same_place d)
  unfolding same_place
  same_place_finds = finds (λ u. any (doubles u) (upto n)) (Doubled d) n doubled

  pub same_place_means : (same_place d ≡ none) ↔ Passes11 d
  same_place_means =
      let o = finds_none (Doubled d) n (same_place d) same_place_finds in (
        (λ e u w hu hw q. same u w (ℕ_discrete u w) (λ ne. o.0 e u hu (w, hw, ne, q))),
        (λ h. o.1 (λ u hu t. t.2 (h u t.0 hu t.1 t.3))),
      )
    where
      same : (u w : ℕ) → Dec (u ≡ w) → ((u ≡ w → ⊥) → ⊥) → u ≡ w
      same u w (yes e) f = e
      same u w (no e) f = absurd (f e)

  -- ---- 12

  end_yes : (v : ℕ) (e : Edge) → ends v e ≡ true → (v ≡ start e) ⊎ (v ≡ stop e)
  unfolding ends
  end_yes v (edge a b) h = go (or_cases (eqb v a) (eqb v b) h)
    where
      go : (eqb v a ≡ true) ⊎ (eqb v b ≡ true) → (v ≡ a) ⊎ (v ≡ b)
      go (inl q) = inl (eqb-true v a q)
      go (inr q) = inr (eqb-true v b q)

  end_is : (v : ℕ) (e : Edge) → (v ≡ start e) ⊎ (v ≡ stop e) → ends v e ≡ true
  unfolding ends
  end_is v (edge a b) (inl q) = or_left (eqb v a) (eqb v b) (eq-eqb v a q)
  end_is v (edge a b) (inr q) = or_right (eqb v a) (eqb v b) (eq-eqb v b q)

  loose : (v : ℕ) → v < n → (not (any (ends v) d.edges) ≡ true) ↔ Loose d v
  unfolding edge_at
  loose v h = (to, of)
    where
      of : Loose d v → not (any (ends v) d.edges) ≡ true
      of f =
          ap not
          (never_true (any (ends v) d.edges) (λ q. let r = any_yes (ends v) (edge 0 0) d.edges q in
          f r.0 r.1 (end_yes v (edge_at d r.0) r.2)))

      to : not (any (ends v) d.edges) ≡ true → Loose d v
      to e i l q =
          true≢false (sym (any_is (ends v) (edge 0 0) d.edges i l (end_is v (edge_at d i) q)) ∙ not-true (any (ends v) d.edges) e)

  pub loose_vertex_finds : Finds (Loose d) n (loose_vertex d)
  unfolding loose_vertex
  loose_vertex_finds = finds (λ v. not (any (ends v) d.edges)) (Loose d) n loose

  -- a vertex that is not loose is on an edge
  on_some : (v : ℕ) → (Loose d v → ⊥) → (e : ℕ) × HasEdge d e × EndOf d e v
  unfolding edge_at
  on_some v f = go (any (ends v) d.edges) refl
    where
      go : (t : Bool) → any (ends v) d.edges ≡ t → (e : ℕ) × HasEdge d e × EndOf d e v
      go true q = let r = any_yes (ends v) (edge 0 0) d.edges q in (r.0, r.1, end_yes v (edge_at d r.0) r.2)
      go false q = absurd (f (λ e h t. true≢false (sym (any_is (ends v) (edge 0 0) d.edges e h (end_is v (edge_at d e) t)) ∙ q)))

  pub loose_vertex_means : (loose_vertex d ≡ none) ↔ Passes12 d
  loose_vertex_means =
      let o = finds_none (Loose d) n (loose_vertex d) loose_vertex_finds in
      ((λ e v h. on_some v (o.0 e v h)), (λ f. o.1 (λ v h l. let t = f v h in l t.0 t.1 t.2)))

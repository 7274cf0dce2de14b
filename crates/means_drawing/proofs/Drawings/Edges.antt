-- The test of 13, edge by edge.
use mathlib.Core.Path.{◌≡◌, refl, sym, ◌∙◌, ap}
use mathlib.Core.Bool.{Bool, true, not, ◌&&◌, ◌||◌, true≢false}
use mathlib.Core.Logic.{◌⊎◌, inl, inr, ◌↔◌}
use mathlib.Core.Option.{none}
use Prim.Native.Nat.{ℕ, ◌<◌}
use native.Mathlib.Omega.{arith}
use borrow.Author.Tests.{eq-eqb, ne_eqb, not-true}
use lib.Dec.{eqb}
use lib.ListN.{length}
use Rattle.lists.specs.Lists.{any, upto}
use Rattle.lists.proofs.Truth.{and_left, and_right, and_both, or_left, or_right, or_cases}
use Rattle.lists.proofs.Passing.{some_yes, some_is}
use Rattle.paper.specs.Drawing.{Wire, Edge, edge, at, edge_at, on_open, open_meets, vertex_on, edges_meet, same_place, edge_meets}
use Rattle.means_drawing.specs.Drawings.{Finds, start, stop, low_end, high_end, Rising, Long, Meets, vertex, other}
use Rattle.means_drawing.specs.Rules.{Passes13}
use Rattle.means_drawing.proofs.Searches.{finds, finds_none}
use Rattle.means_drawing.proofs.Drawings.Vertices.{same_place_means}
use Rattle.means_drawing.proofs.Segments.{on_open_means, open_meets_means}

module _ (d : Wire) where
  pub vertex_on_is : (e : Edge) (w : ℕ) → vertex_on d e w ≡ on_open (at d (start e)) (at d (stop e)) (at d w)
  unfolding vertex_on
  vertex_on_is (edge a b) w = refl

  pub edges_meet_is : (e f : Edge) → edges_meet d e f ≡ open_meets (at d (start e)) (at d (stop e)) (at d (start f)) (at d (stop f))
  unfolding edges_meet
  edges_meet_is (edge a b) (edge u w) = refl

  abbrev others : ℕ → ℕ → Bool
  others e f = not (eqb e f) && edges_meet d (edge_at d e) (edge_at d f)

  abbrev on_vertex : ℕ → Bool
  on_vertex e = any (vertex_on d (edge_at d e)) (upto (length d.vertices))

  abbrev on_edge : ℕ → Bool
  on_edge e = any (others e) (upto (length d.edges))

  meets : (e : ℕ) → (at d (low_end d e) ≡ at d (high_end d e) → ⊥) → (on_vertex e || on_edge e ≡ true) ↔ Meets d e
  meets e long = ((λ h. yes_way (or_cases (on_vertex e) (on_edge e) h)), is_way)
    where
      yes_way : (on_vertex e ≡ true) ⊎ (on_edge e ≡ true) → Meets d e
      yes_way (inl h) =
          let r = some_yes (vertex_on d (edge_at d e)) (length d.vertices) h in
          vertex r.0 r.1
          ((on_open_means (at d (low_end d e)) (at d (high_end d e)) (at d r.0) long).0 (sym (vertex_on_is (edge_at d e) r.0) ∙ r.2))
      yes_way (inr h) =
          let r = some_yes (others e) (length d.edges) h in
          let f = r.0 in
          let a = and_left (not (eqb e f)) (edges_meet d (edge_at d e) (edge_at d f)) r.2 in
          let ne : e ≡ f → ⊥ = λ q. true≢false (sym (eq-eqb e f q) ∙ not-true (eqb e f) a) in
          let b = and_right (not (eqb e f)) (edges_meet d (edge_at d e) (edge_at d f)) r.2 in
          other f r.1 ne
          ((open_meets_means (at d (low_end d e)) (at d (high_end d e)) (at d (low_end d f)) (at d (high_end d f)) long).0
          (sym (edges_meet_is (edge_at d e) (edge_at d f)) ∙ b))

      is_way : Meets d e → on_vertex e || on_edge e ≡ true
      is_way (vertex w h t) =
          or_left (on_vertex e) (on_edge e)
          (some_is (vertex_on d (edge_at d e)) (length d.vertices) w h
          (vertex_on_is (edge_at d e) w ∙ (on_open_means (at d (low_end d e)) (at d (high_end d e)) (at d w) long).1 t))
      is_way (other f h ne t) =
          or_right (on_vertex e) (on_edge e)
          (some_is (others e) (length d.edges) f h
          (and_both (ap not (ne_eqb e f ne)) (edges_meet_is (edge_at d e) (edge_at d f)
          ∙ (open_meets_means (at d (low_end d e)) (at d (high_end d e)) (at d (low_end d f)) (at d (high_end d f)) long).1 t)))

  pub edge_meets_finds : Long d → Finds (Meets d) (length d.edges) (edge_meets d)
  unfolding edge_meets
  edge_meets_finds long = finds (λ e. on_vertex e || on_edge e) (Meets d) (length d.edges) (λ e h. meets e (long e h))

  pub edge_meets_means : Long d → (edge_meets d ≡ none) ↔ Passes13 d
  edge_meets_means long = finds_none (Meets d) (length d.edges) (edge_meets d) (edge_meets_finds long)

  -- ---- where 9 and 11 find nothing, the ends of every edge are at two points

  pub long_edges : Rising d → same_place d ≡ none → Long d
  long_edges r s e h q =
      unlike (low_end d e) (high_end d e) (r e h).0
      ((same_place_means d).0 s (low_end d e) (high_end d e)
      (below (low_end d e) (high_end d e) (length d.vertices) (r e h).0 (r e h).1) (r e h).1 q)
    where
      below : (a b c : ℕ) → a < b → b < c → a < c
      below a b c h l = omega arith

      unlike : (a b : ℕ) → a < b → a ≡ b → ⊥
      unlike a b h e = omega arith

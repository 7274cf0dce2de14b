-- The edges that a loop runs upwards are those of the sides that go to a higher vertex.
use mathlib.Core.Path.{◌≡◌, refl, sym, ap, ◌∙◌}
use mathlib.Core.Bool.{Bool, true, false, ◌&&◌}
use mathlib.Core.Logic.{◌⊎◌, inl, inr}
use mathlib.Core.List.{List, map}
use Prim.Native.Nat.{ℕ, ◌+◌, ◌<◌}
use native.Mathlib.Omega.{arith}
use borrow.Author.Tests.{eq-eqb, eqb-true, lt-ltb, ltb-true}
use lib.Dec.{eqb, ltb}
use lib.ListN.{length, get_or}
use Rattle.lists.specs.Lists.{any, upto}
use Rattle.lists.specs.Around.{around}
use Rattle.lists.proofs.Places.{map_at}
use Rattle.lists.proofs.Passing.{some_yes, some_is}
use Rattle.lists.proofs.Truth.{and_both, and_left, and_right, same_truth}
use Rattle.lists.proofs.Sides.{around_low}
use Rattle.sets.specs.Word.{dig}
use Rattle.paper.specs.Drawing.{Wire, Edge, edge}
use Rattle.paper.specs.Loops.{Loop}
use Rattle.paper.specs.Solids.{runs, runs_up}
use Rattle.fast_tables.specs.Paths.{Path}
use Rattle.fast_tables.proofs.Rounds.{runs_yes, runs_is, joins_cases}
use Rattle.fast_tables.proofs.Counts.{map_yes}
use Rattle.loop_words.specs.Numbered.{pair_at, EdgesNumbered}
use Rattle.loop_words.proofs.Masks.{prior, prior_low, side_number, after_prior, after_is, side_edge, side_number_is}
use Rattle.walk_edges.specs.Marks.{Upward, up_mask}

-- the side to corner j goes to a higher vertex
abbrev pub rises : Loop → ℕ → Bool
rises l j = ltb (get_or l (prior (length l) j) 0) (get_or l j 0)

module _ (d : Wire) (upward : Upward d) (l : Loop) (path : Path d l) (number : List ℕ) (numbered : EdgesNumbered number d.edges) where
  abbrev n : ℕ
  n = length l

  -- the side to corner j goes up edge e
  abbrev climbs : ℕ → ℕ → Bool
  climbs e j = rises l j && eqb e (side_number number l j)

  pub ups_are : (e : ℕ) → dig (up_mask d l) e ≡ any (climbs e) (upto n)
  unfolding up_mask runs_up
  ups_are e = same_truth _ _ forth back
    where
      each : (g : Edge) → e < length d.edges → get_or d.edges e (edge 0 0) ≡ g → runs_up g l ≡ true → any (climbs e) (upto n) ≡ true
      each (edge a b) h q t =
          let r = runs_yes a b l t in
          let s = after_is d l path r.0 r.1 in
          let j = s.0 in
          let x : get_or l (prior n j) 0 ≡ a = ap (λ (i : ℕ). get_or l i 0) s.2 ∙ sym (around_low l r.0 0 r.1) ∙ r.2 in
          let y : get_or l j 0 ≡ b = sym (after_prior d l path j s.1) ∙ ap (λ (i : ℕ). around l (i + 1) 0) s.2 ∙ r.3 in
          let up = upward e a b h q in
          some_is (climbs e) n j s.1
          (and_both (lt-ltb (get_or l (prior n j) 0) (get_or l j 0) (omega (arith, up, x, y)))
          (eq-eqb e (side_number number l j) (sym ((λ i. get_or number (pair_at (x i) (y i)) 0) ∙ numbered.up e a b h q))))

      forth : dig (map (λ g. runs_up g l) d.edges) e ≡ true → any (climbs e) (upto n) ≡ true
      forth t =
          let r = map_yes (λ g. runs_up g l) (edge 0 0) d.edges e t in
          each (get_or d.edges e (edge 0 0)) r.0 refl r.1

      -- the edge of a side that rises is run upwards
      side : (f a b : ℕ) → f < length d.edges → a < b → runs a b l ≡ true
          → (get_or d.edges f (edge 0 0) ≡ edge a b) ⊎ (get_or d.edges f (edge 0 0) ≡ edge b a) → runs_up (get_or d.edges f (edge 0 0)) l ≡ true
      side f a b h up t (inl q) = ap (λ (x : Edge). runs_up x l) q ∙ t
      side f a b h up t (inr q) = absurd (omega (arith, upward f b a h q))

      back : any (climbs e) (upto n) ≡ true → dig (map (λ g. runs_up g l) d.edges) e ≡ true
      back t =
          let r = some_yes (climbs e) n t in
          let j = r.0 in
          let k = prior n j in
          let p = prior_low d l path j r.1 in
          let a = get_or l k 0 in
          let b = get_or l j 0 in
          let m = side_edge d l path number numbered j r.1 in
          let f = m.0 in
          let up = ltb-true a b (and_left (rises l j) (eqb e (side_number number l j)) r.2) in
          let same = eqb-true e (side_number number l j) (and_right (rises l j) (eqb e (side_number number l j)) r.2) in
          let s : e ≡ f = same ∙ side_number_is d l path number numbered j r.1 in
          ap (dig (map (λ g. runs_up g l) d.edges)) s ∙ map_at (λ g. runs_up g l) d.edges f (edge 0 0) false m.1
          ∙ side f a b m.1 up (runs_is a b l k p (around_low l k 0 p) (after_prior d l path j r.1))
          (joins_cases a b (get_or d.edges f (edge 0 0)) m.2)

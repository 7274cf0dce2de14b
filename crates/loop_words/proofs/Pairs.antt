-- The entries of edges in a table with one for each pair of vertices: those of two edges are different, since edges rise.
use mathlib.Core.Path.{◌≡◌, sym, ap, ◌∙◌}
use mathlib.Core.Bool.{true, ◌&&◌}
use mathlib.Core.Logic.{◌⊎◌, inl, inr}
use mathlib.Core.List.{List}
use Prim.Native.Nat.{ℕ, zero, suc, ◌+◌, ◌*◌, ◌/◌, ◌-◌, ◌≤◌, ◌<◌}
use native.Mathlib.Decide.{ℕ_discrete}
use native.Mathlib.Omega.{arith}
use borrow.Author.Tests.{ltb-true, eqb-true, not-false}
use lib.Dec.{eqb, ltb}
use lib.ListN.{length, get_or, set, length-set}
use lib.Seq.{get_or-set_same, get_or-set_other}
use Rattle.paper.specs.Numbers.{most_vertices}
use Rattle.lists.proofs.Truth.{or_cases, and_left, and_right}
use Rattle.lists.proofs.Lowest.{lowest-none}
use Rattle.paper.specs.Sheet.{edge_above, low_at}
use Rattle.paper.specs.Drawing.{edge, edges_of}
use Rattle.paper_laws.proofs.Wires.{length_edges, edge-at}
use Rattle.loop_words.specs.Numbered.{RisingEnds, pair_at, EdgesNumbered}

-- how many entries the table has
abbrev pub all_pairs : ℕ
all_pairs = most_vertices * most_vertices

module _ {ends : List ℕ} (r : RisingEnds ends) where
  abbrev low : ℕ → ℕ
  low e = get_or ends (2 * e) 0

  abbrev high : ℕ → ℕ
  high e = get_or ends (2 * e + 1) 0

  pub half : length ends / 2 ≡ r.links.edges
  half = omega (arith, r.links.whole)

  -- the ends of an edge are vertices, the lower first
  pub low_known : (e : ℕ) → e < r.links.edges → low e < most_vertices
  low_known e h = omega (arith, r.links.known (2 * e) (omega (arith, r.links.whole)), r.few)

  pub high_known : (e : ℕ) → e < r.links.edges → high e < most_vertices
  high_known e h = omega (arith, r.links.known (2 * e + 1) (omega (arith, r.links.whole)), r.few)

  -- ---- the entry of an edge, its lower end first, is above that of the edge before
  entry_next : (e : ℕ) → suc e < r.links.edges → pair_at (low e) (high e) < pair_at (low (suc e)) (high (suc e))
  unfolding low_at
  entry_next e h = go (or_cases (ltb (low e) a) (eqb (low e) a && ltb (high e) b) above)
    where
      a : ℕ
      a = get_or ends (2 * e + 2) 0

      b : ℕ
      b = get_or ends (2 * e + 3) 0

      above : edge_above (low e) (high e) a b ≡ true
      above = not-false (edge_above (low e) (high e) a b) (lowest-none (low_at ends) (length ends / 2) r.order (suc e) (omega (arith, half)))

      a_is : low (suc e) ≡ a
      a_is = let s : 2 * suc e ≡ 2 * e + 2 = omega arith in ap (λ (i : ℕ). get_or ends i 0) s

      b_is : high (suc e) ≡ b
      b_is = let s : 2 * suc e + 1 ≡ 2 * e + 3 = omega arith in ap (λ (i : ℕ). get_or ends i 0) s

      go : (ltb (low e) a ≡ true) ⊎ ((eqb (low e) a && ltb (high e) b) ≡ true) → pair_at (low e) (high e) < pair_at (low (suc e)) (high (suc e))
      go (inl t) = omega (arith, ltb-true (low e) a t, a_is, b_is, high_known e (omega arith))
      go (inr t) =
          omega (
            arith,
            eqb-true (low e) a (and_left (eqb (low e) a) (ltb (high e) b) t),
            ltb-true (high e) b (and_right (eqb (low e) a) (ltb (high e) b) t),
            a_is,
            b_is,
          )

  entry_later : (n e : ℕ) → e + suc n < r.links.edges → pair_at (low e) (high e) < pair_at (low (e + suc n)) (high (e + suc n))
  entry_later zero e h =
      let s : suc e ≡ e + 1 = omega arith in
      rw (← s) (entry_next e (omega arith))
  entry_later (suc n) e h =
      let s : suc (e + suc n) ≡ e + suc (suc n) = omega arith in
      rw (← s) (let p = entry_later n e (omega arith) in let q = entry_next (e + suc n) (omega arith) in omega (arith, p, q))

  -- so it is no other edge's
  entry-above : (e f : ℕ) → e < f → f < r.links.edges → pair_at (low e) (high e) < pair_at (low f) (high f)
  entry-above e f h k =
      let s : e + suc (f - e - 1) ≡ f = omega arith in
      rw (← s) (entry_later (f - e - 1) e (omega arith))

  -- ---- the first e edges are numbered
  pub record Numbering (number : List ℕ) (e : ℕ) : Type 0 where
    pub up : (f : ℕ) → f < e → get_or number (pair_at (low f) (high f)) 0 ≡ f
    pub down : (f : ℕ) → f < e → get_or number (pair_at (high f) (low f)) 0 ≡ f

  pub numbering_none : (number : List ℕ) → Numbering number 0
  numbering_none number = record { up = λ f h. absurd (omega arith); down = λ f h. absurd (omega arith) }

  pub numbering_end : (number : List ℕ) → Numbering number r.links.edges → EdgesNumbered number (edges_of ends)
  numbering_end number n = record { up = λ e a b h q. go_up e a b (count e h) (is e h q); down = λ e a b h q. go_down e a b (count e h) (is e h q) }
    where
      count : (e : ℕ) → e < length (edges_of ends) → e < r.links.edges
      count e h = omega (arith, length_edges ends, half)

      is : (e : ℕ) → e < length (edges_of ends) → {a b : ℕ} → get_or (edges_of ends) e (edge 0 0) ≡ edge a b → edge (low e) (high e) ≡ edge a b
      is e h q = sym (edge-at ends e (edge 0 0) h) ∙ q

      go_up : (e a b : ℕ) → e < r.links.edges → edge (low e) (high e) ≡ edge a b → get_or number (pair_at a b) 0 ≡ e
      go_up e a b h q =
          let x : low e ≡ a = cc in
          let y : high e ≡ b = cc in
          (λ i. get_or number (pair_at (sym x i) (sym y i)) 0) ∙ n.up e h

      go_down : (e a b : ℕ) → e < r.links.edges → edge (low e) (high e) ≡ edge a b → get_or number (pair_at b a) 0 ≡ e
      go_down e a b h q =
          let x : low e ≡ a = cc in
          let y : high e ≡ b = cc in
          (λ i. get_or number (pair_at (sym y i) (sym x i)) 0) ∙ n.down e h

  -- one edge more
  module _ (number : List ℕ) (e : ℕ) (h : e < r.links.edges) (room : length number ≡ all_pairs) (n : Numbering number e) where
    abbrev there : ℕ
    there = pair_at (low e) (high e)

    abbrev back : ℕ
    back = pair_at (high e) (low e)

    abbrev pub stored : List ℕ
    stored = set (set number there e) back e

    -- at the two entries, and at any other
    at_back : get_or stored back 0 ≡ e
    at_back = get_or-set_same (set number there e) back e 0 (omega (arith, length-set number there e, low_known e h, high_known e h))

    at_there : get_or stored there 0 ≡ e
    at_there = get_or-set_other (set number there e) back there e 0 (λ q. omega (arith, q, r.links.rising e h, low_known e h, high_known e h))
        ∙ get_or-set_same number there e 0 (omega (arith, low_known e h, high_known e h))

    at_other : (i : ℕ) → (i ≡ there → ⊥) → (i ≡ back → ⊥) → get_or stored i 0 ≡ get_or number i 0
    at_other i p q = get_or-set_other (set number there e) back i e 0 q ∙ get_or-set_other number there i e 0 p

    pub numbering_more : Numbering stored (e + 1)
    numbering_more = record { up = λ f m. go_up f (ℕ_discrete f e) (omega arith); down = λ f m. go_down f (ℕ_discrete f e) (omega arith) }
      where
        go_up : (f : ℕ) → Dec (f ≡ e) → f ≤ e → get_or stored (pair_at (low f) (high f)) 0 ≡ f
        go_up f (yes s) m = rw s at_there
        go_up f (no s) m =
            let k : f < e = omega arith in
            let above = entry-above f e k h in
            let a = low_known f (omega arith) in
            let b = high_known f (omega arith) in
            at_other (pair_at (low f) (high f)) (λ q. omega (arith, q))
            (λ q. omega (arith, q, r.links.rising e h, low_known e h, high_known e h, r.links.rising f (omega arith)))
            ∙ n.up f k

        go_down : (f : ℕ) → Dec (f ≡ e) → f ≤ e → get_or stored (pair_at (high f) (low f)) 0 ≡ f
        go_down f (yes s) m = rw s at_back
        go_down f (no s) m =
            let k : f < e = omega arith in
            let above = entry-above f e k h in
            let a = low_known f (omega arith) in
            let b = high_known f (omega arith) in
            let x = low_known e h in
            let y = high_known e h in
            at_other (pair_at (high f) (low f)) (λ q. omega (arith, q, r.links.rising e h, r.links.rising f (omega arith)))
            (λ q. omega (arith, q))
            ∙ n.down f k

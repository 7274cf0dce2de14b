-- Edges that pass 10 stand in order, so none stands twice.
use mathlib.Core.Path.{◌≡◌, refl, sym, ap, ◌∙◌, subst}
use mathlib.Core.Bool.{true, ◌&&◌}
use mathlib.Core.Logic.{◌⊎◌, inl, inr}
use mathlib.Core.Option.{none}
use mathlib.Core.List.{List, [], ◌∷◌}
use Prim.Native.Nat.{ℕ, zero, suc, ◌+◌, ◌-◌, ◌*◌, ◌/◌, ◌<◌}
use native.Mathlib.Omega.{arith}
use borrow.Author.Tests.{ltb-true, eqb-true, not-false}
use lib.Dec.{eqb, ltb}
use lib.IntN.{ℤ}
use lib.ListN.{length, get_or}
use Rattle.lists.specs.Lists.{lowest}
use Rattle.lists.proofs.Lowest.{lowest-none}
use Rattle.lists.proofs.Truth.{and_left, and_right, or_cases}
use Rattle.paper.specs.Refusals as No
use Rattle.paper.specs.Refusals.{check, first_of, Fine}
use Rattle.paper.specs.Format.{coordinates_in, ends_in}
use Rattle.paper.specs.Sheet.{far_at, wrong_at, edge_above, low_at, edge_checks, content_checks, lent_checks, sheet_checks}
use Rattle.paper.specs.Drawing.{Edge, edge, edge_at, wire}
use Rattle.paper.specs.declared.Format.{Format}
use Rattle.paper_laws.proofs.Checks.{found_none}
use Rattle.paper_laws.proofs.Wires.{length_edges, edge-at}
use Rattle.sheet_laws.proofs.Lent.{lent}
use Rattle.means_drawing.specs.Drawings.{start, stop}
use Rattle.means_drawing.proofs.Drawings.Lists.{lent_rising}
use Rattle.means_sheets.proofs.Sheets.Read.{accepted-lent}
use Rattle.means_moves.proofs.Refused.{Sorted}
use Rattle.paper_laws.specs.Editions.{Limited}

-- as pairs
Above : Edge → Edge → Type 0
Above x y = (start x < start y) ⊎ ((start x ≡ start y) × (stop x < stop y))

chain : (x y z : Edge) → Above x y → Above y z → Above x z
unfolding Above
chain x y z (inl p) (inl q) = inl (omega arith)
chain x y z (inl p) (inr q) = inl (omega (arith, q.0))
chain x y z (inr p) (inl q) = inl (omega (arith, p.0))
chain x y z (inr p) (inr q) = inr (p.0 ∙ q.0, omega (arith, p.1, q.1))

module _ (ends : List ℕ) (order : lowest (low_at ends) (length ends / 2) ≡ none) where
  abbrev pair_at : ℕ → Edge
  pair_at e = edge (get_or ends (2 * e) 0) (get_or ends (2 * e + 1) 0)

  after : (i : ℕ) → suc i < length ends / 2 → Above (pair_at i) (pair_at (suc i))
  unfolding low_at Above
  after i h =
      let f = lowest-none (low_at ends) (length ends / 2) order (suc i) h in
      let t = not-false (edge_above (get_or ends (2 * i) 0) (get_or ends (2 * i + 1) 0) (get_or ends (2 * i + 2) 0) (get_or ends (2 * i + 3) 0)) f in
      go (get_or ends (2 * i) 0) (get_or ends (2 * i + 1) 0) (get_or ends (2 * suc i) 0) (get_or ends (2 * suc i + 1) 0)
      (ap (λ (k : ℕ). edge_above (get_or ends (2 * i) 0) (get_or ends (2 * i + 1) 0) (get_or ends k 0) (get_or ends (2 * suc i + 1) 0)) (two i)
      ∙ ap (λ (k : ℕ). edge_above (get_or ends (2 * i) 0) (get_or ends (2 * i + 1) 0) (get_or ends (2 * i + 2) 0) (get_or ends k 0)) (three i) ∙ t)
    where
      two : (i : ℕ) → 2 * suc i ≡ 2 * i + 2
      two i = omega arith

      three : (i : ℕ) → 2 * suc i + 1 ≡ 2 * i + 3
      three i = omega arith

      go : (a b c d : ℕ) → edge_above a b c d ≡ true → (a < c) ⊎ ((a ≡ c) × (b < d))
      go a b c d e = by (or_cases (ltb a c) (eqb a c && ltb b d) e)
        where
          by : (ltb a c ≡ true) ⊎ ((eqb a c && ltb b d) ≡ true) → (a < c) ⊎ ((a ≡ c) × (b < d))
          by (inl p) = inl (ltb-true a c p)
          by (inr p) = inr (eqb-true a c (and_left (eqb a c) (ltb b d) p), ltb-true b d (and_right (eqb a c) (ltb b d) p))

  later : (k i j : ℕ) → j ≡ suc (k + i) → j < length ends / 2 → Above (pair_at i) (pair_at j)
  unfolding Above
  later zero i j e h =
      let z : suc i ≡ j = omega arith in
      subst (λ (m : ℕ). Above (pair_at i) (pair_at m)) z (after i (omega arith))
  later (suc k) i j e h =
      let z : suc (suc (k + i)) ≡ j = omega arith in
      chain (pair_at i) (pair_at (suc (k + i))) (pair_at j) (later k i (suc (k + i)) refl (omega arith))
      (subst (λ (m : ℕ). Above (pair_at (suc (k + i))) (pair_at m)) z (after (suc (k + i)) (omega arith)))

  apart : (i j : ℕ) → i < j → j < length ends / 2 → pair_at i ≡ pair_at j → ⊥
  unfolding Above
  apart i j h l e =
      let z : j ≡ suc ((j - suc i) + i) = omega arith in
      go (later (j - suc i) i j z l) (ap start e) (ap stop e)
    where
      go : Above (pair_at i) (pair_at j) → start (pair_at i) ≡ start (pair_at j) → stop (pair_at i) ≡ stop (pair_at j) → ⊥
      go (inl p) x y = omega (arith, p)
      go (inr p) x y = omega (arith, p.1)

  pub once : (i j : ℕ) → i < length ends / 2 → j < length ends / 2 → pair_at i ≡ pair_at j → i ≡ j
  once i j hi hj e =
      let p : i < j → ⊥ = λ h. apart i j h hj e in
      let q : j < i → ⊥ = λ h. apart j i h hi (sym e) in
      omega (arith, p, q)

-- two lists that pass 3 to 10; a sheet that does
pub lent_sorted : (xyz : List ℤ) (ends : List ℕ) → Fine ≡ first_of (lent_checks xyz ends) → Sorted (wire xyz ends)
unfolding wire edge_at content_checks edge_checks
lent_sorted xyz ends h =
    let v = length xyz / 3 in
    let n = length ends / 2 in
    let last = check No.EdgeOrder (lowest (low_at ends) n) ∷ [] in
    let nine = check No.BadEdge (lowest (wrong_at v ends) n) ∷ last in
    let content : Fine ≡ first_of (check No.BadCoordinate (lowest (far_at xyz) (length xyz)) ∷ nine) = (lent xyz ends h).fine in
    let order = (found_none No.EdgeOrder [] (found_none No.BadEdge last (found_none No.BadCoordinate nine content).1).1).0 in
    record {
      rising = lent_rising xyz ends h;
      once = λ i j hi hj e.
          once ends order i j (omega (arith, length_edges ends)) (omega (arith, length_edges ends))
          (sym (edge-at ends i (edge 0 0) hi) ∙ e ∙ edge-at ends j (edge 0 0) hj);
    }

pub sheet_sorted : (f : Format) → Limited f → (s : List ℕ) → Fine ≡ first_of (sheet_checks f s) → Sorted (wire (coordinates_in f s) (ends_in f s))
sheet_sorted f held s h = lent_sorted (coordinates_in f s) (ends_in f s) (accepted-lent f held s h)

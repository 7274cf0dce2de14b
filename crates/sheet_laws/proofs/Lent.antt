-- What a drawing that is lent as two lists is, where it passes 5, 8, 9 and 10.
use mathlib.Core.Path.{◌≡◌, refl, ap}
use mathlib.Core.Bool.{Bool, true, false, not}
use mathlib.Core.List.{List}
use Prim.Native.Nat.{ℕ, ◌≤◌, ◌<◌, ◌+◌, ◌*◌, ◌/◌, ◌%◌}
use native.Mathlib.Omega.{arith}
use borrow.Author.Tests.{ltb-true, ltb-false, leb-true, leb-false, eqb-true, not-false}
use lib.Dec.{ltb, leb, eqb}
use lib.IntN.{ℤ, pos}
use lib.ListN.{length, get_or, get_or-eq_default}
use Rattle.lists.proofs.Truth.{or-none}
use Rattle.lists.proofs.Lowest.{lowest-none}
use Rattle.paper_laws.proofs.Checks.{found_none, passed}
use Rattle.paper.specs.Numbers.{least_vertices, most_vertices, least_edges, most_edges}
use Rattle.paper.specs.Refusals.{first_of, Fine}
use Rattle.paper.specs.Sheet.{far, far_at, wrong, wrong_at, edge_checks, content_checks, lent_checks, bad_count}
use Rattle.paper_laws.proofs.Limits.{outside_false}
use Rattle.sheet_laws.specs.Near.{Near}

-- what refusals 8 and 9 leave
pub record Contents (v : ℕ) (xyz : List ℤ) (ends : List ℕ) : Type 0 where
  pub near : Near xyz
  pub below : (k : ℕ) → k < length ends / 2 * 2 → get_or ends k 0 < v
  pub rising : (e : ℕ) → e < length ends / 2 → get_or ends (2 * e) 0 < get_or ends (2 * e + 1) 0

pub contents : (v : ℕ) (xyz : List ℤ) (ends : List ℕ) → Fine ≡ first_of (content_checks v xyz ends) → Contents v xyz ends
unfolding content_checks edge_checks far_at wrong_at
contents v xyz ends h =
    let p8 = found_none _ _ h in
    let p9 = found_none _ _ p8.1 in
    let right = lowest-none (wrong_at v ends) (length ends / 2) p9.0 in
    record {
      near = λ k. near-at k (ltb k (length xyz)) refl (lowest-none (far_at xyz) (length xyz) p8.0);
      below = λ k u. below_at k u right;
      rising =
          λ e u. leb-false (get_or ends (2 * e + 1) 0) _
          (or-none (leb v (get_or ends (2 * e + 1) 0)) _ (or-none (leb v (get_or ends (2 * e) 0)) _ (right e u)).1).1;
    }
  where
    near-at : (k : ℕ) (b : Bool) → ltb k (length xyz) ≡ b → ((j : ℕ) → j < length xyz → far_at xyz j ≡ false)
        → far (get_or xyz k (pos 0)) ≡ false
    near-at k true t q = q k (ltb-true k (length xyz) t)
    near-at k false t q = ap far (get_or-eq_default xyz (pos 0) (ltb-false k (length xyz) t))

    -- an end of an edge is its first or its second
    either : (k e : ℕ) → get_or ends (2 * e) 0 < v → get_or ends (2 * e + 1) 0 < v → (t : Bool) → leb (k % 2) 0 ≡ t → k ≡ 2 * e + k % 2
        → k % 2 < 2 → get_or ends k 0 < v
    either k e a b true t d m = let z : k ≡ 2 * e = omega (arith, leb-true (k % 2) 0 t) in rw z a
    either k e a b false t d m = let z : k ≡ 2 * e + 1 = omega (arith, leb-false (k % 2) 0 t) in rw z b

    below_at : (k : ℕ) → k < length ends / 2 * 2 → ((e : ℕ) → e < length ends / 2 → wrong_at v ends e ≡ false) → get_or ends k 0 < v
    below_at k u q =
        let e : ℕ = k / 2 in
        let w : wrong v (get_or ends (2 * e) 0) (get_or ends (2 * e + 1) 0) ≡ false = q e (omega arith) in
        let a : get_or ends (2 * e) 0 < v = leb-false v _ (or-none (leb v (get_or ends (2 * e) 0)) _ w).0 in
        let b : get_or ends (2 * e + 1) 0 < v = leb-false v _
        (or-none (leb v (get_or ends (2 * e + 1) 0)) _ (or-none (leb v (get_or ends (2 * e) 0)) _ w).1).0 in
        either k e a b (leb (k % 2) 0) refl (omega arith) (omega arith)

pub record Lent (xyz : List ℤ) (ends : List ℕ) : Type 0 where
  pub v_whole : length xyz ≡ 3 * (length xyz / 3)
  pub v_least : least_vertices ≤ length xyz / 3
  pub v_most : length xyz / 3 ≤ most_vertices
  pub e_whole : length ends ≡ 2 * (length ends / 2)
  pub e_least : least_edges ≤ length ends / 2
  pub e_most : length ends / 2 ≤ most_edges
  pub fine : Fine ≡ first_of (content_checks (length xyz / 3) xyz ends)

-- a list is whole where its count is not bad, and there are as many parts as there may be
whole : (k lo hi n : ℕ) → bad_count k lo hi n ≡ false → (n % k ≡ 0) × (lo ≤ n / k) × (n / k ≤ hi)
whole k lo hi n e =
    let b = outside_false lo hi (n / k) (or-none (not (eqb (n % k) 0)) _ e).1 in
    (eqb-true _ _ (not-false _ (or-none (not (eqb (n % k) 0)) _ e).0), b.0, b.1)

pub lent : (xyz : List ℤ) (ends : List ℕ) → Fine ≡ first_of (lent_checks xyz ends) → Lent xyz ends
unfolding lent_checks
lent xyz ends h =
    let p0 = passed _ _ _ h in
    let p1 = passed _ _ _ p0.1 in
    let v = whole 3 least_vertices most_vertices (length xyz) p0.0 in
    let e = whole 2 least_edges most_edges (length ends) p1.0 in
    record {
      v_whole = omega (arith, v.0);
      v_least = v.1;
      v_most = v.2;
      e_whole = omega (arith, e.0);
      e_least = e.1;
      e_most = e.2;
      fine = p1.1;
    }

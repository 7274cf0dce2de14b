-- What a sheet that passes refusals 3 to 7 is.
use mathlib.Core.Path.{◌≡◌, ◌∙◌, ap₂}
use mathlib.Core.List.{List, ◌++◌}
use Prim.Native.Nat.{ℕ, ◌≤◌}
use borrow.Author.Tests.{ltb-false, eqb-true, not-false}
use lib.ListN.{length}
use Rattle.pack.specs.Bits.{field_at}
use Rattle.paper_laws.proofs.Limits.{outside_false}
use Rattle.paper_laws.proofs.Checks.{passed, first_stops, first_passes, first-both}
use Rattle.paper.specs.Refusals.{first_of, Fine}
use Rattle.paper.specs.Format.{total, bytes_for, fill_after, vertices_in, edges_in}
use Rattle.paper.specs.Sheet.{open_checks, count_checks, close_checks, shape_checks}
use Rattle.paper.specs.declared.Format.{Format}
use Rattle.std.specs.Prelude.{Err}
use Rattle.paper.specs.declared.Refusal.{Refusal}

pub record Opened (f : Format) (s : List ℕ) : Type 0 where
  pub long : 3 ≤ length s
  pub edition : field_at s 0 4 ≡ f.edition

pub opened : (f : Format) (s : List ℕ) → Fine ≡ first_of (open_checks f s) → Opened f s
unfolding open_checks
opened f s h =
    let p3 = passed _ _ _ h in
    let p4 = passed _ _ _ p3.1 in
    record { long = ltb-false (length s) 3 p3.0; edition = eqb-true _ _ (not-false _ p4.0) }

pub record Counted (f : Format) (v e : ℕ) : Type 0 where
  pub v_least : 4 ≤ v
  pub v_most : v ≤ f.most_vertices
  pub e_least : 6 ≤ e
  pub e_most : e ≤ f.most_edges

pub counted : (f : Format) (v e : ℕ) → Fine ≡ first_of (count_checks f v e) → Counted f v e
unfolding count_checks
counted f v e h =
    let p0 = passed _ _ _ h in
    let p1 = passed _ _ _ p0.1 in
    let hv = outside_false 4 f.most_vertices v p0.0 in
    let he = outside_false 6 f.most_edges e p1.0 in
    record { v_least = hv.0; v_most = hv.1; e_least = he.0; e_most = he.1 }

pub record Closed (f : Format) (s : List ℕ) (v e : ℕ) : Type 0 where
  pub sized : length s ≡ bytes_for (total f v e)
  pub filled : fill_after (total f v e) s ≡ 0

pub closed : (f : Format) (s : List ℕ) (v e : ℕ) → Fine ≡ first_of (close_checks f s v e) → Closed f s v e
unfolding close_checks
closed f s v e h =
    let p6 = passed _ _ _ h in
    let p7 = passed _ _ _ p6.1 in
    record { sized = eqb-true _ _ (not-false _ p6.0); filled = eqb-true _ _ (not-false _ p7.0) }

pub record Shaped (f : Format) (s : List ℕ) : Type 0 where
  pub open_is : Opened f s
  pub counts_are : Counted f (vertices_in f s) (edges_in f s)
  pub close_is : Closed f s (vertices_in f s) (edges_in f s)

pub shaped : (f : Format) (s : List ℕ) → Fine ≡ first_of (shape_checks f s) → Shaped f s
unfolding shape_checks
shaped f s h =
    let v = vertices_in f s in
    let e = edges_in f s in
    let p = first-both (open_checks f s ++ count_checks f v e) (close_checks f s v e) h in
    let q = first-both (open_checks f s) (count_checks f v e) p.0 in
    record { open_is = opened f s q.0; counts_are = counted f v e q.1; close_is = closed f s v e p.1 }

-- the three groups one behind the other, as the code asks them
module _ (f : Format) (s : List ℕ) where
  pub shape_open : {r : Refusal} → Err r ≡ first_of (open_checks f s) → Err r ≡ first_of (shape_checks f s)
  unfolding shape_checks
  shape_open e = first_stops _ _ (first_stops (open_checks f s) _ e)

  module _ {v e : ℕ} (hv : v ≡ vertices_in f s) (he : e ≡ edges_in f s) (o : Fine ≡ first_of (open_checks f s)) where
    counts_at : first_of (count_checks f v e) ≡ first_of (open_checks f s ++ count_checks f (vertices_in f s) (edges_in f s))
    counts_at = rw (hv, he) (first_passes (open_checks f s) _ o)

    pub shape_counts : {r : Refusal} → Err r ≡ first_of (count_checks f v e) → Err r ≡ first_of (shape_checks f s)
    unfolding shape_checks
    shape_counts q = first_stops _ _ (q ∙ counts_at)

    pub shape_close : Fine ≡ first_of (count_checks f v e) → first_of (close_checks f s v e) ≡ first_of (shape_checks f s)
    unfolding shape_checks
    shape_close q = ap₂ (λ (x y : ℕ). first_of (close_checks f s x y)) hv he ∙ first_passes _ _ (q ∙ counts_at)

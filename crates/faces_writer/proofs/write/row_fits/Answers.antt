-- `faces_writer::write::row_fits`: each return is one test of the row that decides, those before it passed.
use mathlib.Core.Path.{◌≡◌, sym, ◌∙◌}
use mathlib.Core.Bool.{false}
use Prim.Native.Nat.{ℕ, ◌*◌, ◌+◌, ◌≤◌}
use lib.ListN.{length}
use Rattle.paper.specs.Numbers.{least_corners, most_corners, row_bytes}
use Rattle.paper.specs.Format.{outside}
use Rattle.paper_laws.proofs.Limits.{outside_false}
use Rattle.faces_writer.proofs.RowAt.{count_at, row_short, row_count, row_high, row-face}
use native.Mathlib.Omega.{arith}
use Rattle.faces_writer.proofs.write.row_fits.Goals as goal

whole : (c : goal.Then-is_outside) → row_bytes * c.args.k + row_bytes ≤ length c.args.rows.now
whole c = omega (arith, c.if-rows-first.false)

abbrev count : goal.Else-is_outside → ℕ
count c = count_at c.args.rows.now c.args.k

counted : (c : goal.Else-is_outside) → outside least_corners most_corners (count c) ≡ false
counted c = sym c.is_outside.ensures ∙ c.if-is_outside.false

whole-2 : (c : goal.Else-is_outside) → row_bytes * c.args.k + row_bytes ≤ length c.args.rows.now
whole-2 c = omega (arith, c.if-rows-first.false)

abbrev count-2 : goal.Then-are_under → ℕ
count-2 c = count_at c.args.rows.now c.args.k

counted-2 : (c : goal.Then-are_under) → outside least_corners most_corners (count-2 c) ≡ false
counted-2 c = sym c.is_outside.ensures ∙ c.if-is_outside.false

whole-3 : (c : goal.Then-are_under) → row_bytes * c.args.k + row_bytes ≤ length c.args.rows.now
whole-3 c = omega (arith, c.if-rows-first.false)

abbrev count-3 : goal.Else-are_under → ℕ
count-3 c = count_at c.args.rows.now c.args.k

counted-3 : (c : goal.Else-are_under) → outside least_corners most_corners (count-3 c) ≡ false
counted-3 c = sym c.is_outside.ensures ∙ c.if-is_outside.false

whole-4 : (c : goal.Else-are_under) → row_bytes * c.args.k + row_bytes ≤ length c.args.rows.now
whole-4 c = omega (arith, c.if-rows-first.false)

-- ---- the needs

pub returns-then-rows-first : goal.returns-then-rows-first
returns-then-rows-first c = let a = c.args in row_short a.f a.rows.now a.k (omega (arith, c.if-rows-first.true))

pub overflow_cast-c : goal.overflow_cast-c
overflow_cast-c c = omega (arith, c.type_inv.rows (row_bytes * c.args.k))

pub returns-then-is_outside : goal.returns-then-is_outside
returns-then-is_outside c =
    let a = c.args in
    row_count a.f a.rows.now a.k (whole c) (sym c.is_outside.ensures ∙ c.if-is_outside.true)

pub are_under-requires : goal.are_under-requires
are_under-requires c =
    omega (arith, whole-2 c, outside_false least_corners most_corners (count c) (counted c))

pub returns-then-are_under : goal.returns-then-are_under
returns-then-are_under c =
    let a = c.args in
    row-face a.f a.rows.now a.k (whole-3 c) (counted-2 c) (sym c.are_under.ensures ∙ c.if-are_under.true)

pub returns : goal.returns
returns c =
    let a = c.args in
    row_high a.f a.rows.now a.k (whole-4 c) (counted-3 c) (sym c.are_under.ensures ∙ c.if-are_under.false)

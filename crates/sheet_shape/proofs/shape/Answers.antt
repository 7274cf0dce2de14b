-- `sheet_shape::shape`: the three groups of checks one behind the other. A sheet that passes 3 and 4 has the bits of its counts, and
-- counts that pass 5 are few enough for the length.
use mathlib.Core.Path.{◌∙◌}
use native.Mathlib.Omega.{arith}
use Rattle.std.proofs.lemmas.Result.{err_from_is_err_and}
use Rattle.sheet_laws.proofs.Shaped.{opened, counted, shape_open, shape_counts, shape_close}
use Rattle.sheet_shape.proofs.shape.Goals as goal

pub returns-in_err-opening : goal.returns-in_err-opening
returns-in_err-opening c =
    let p = err_from_is_err_and c.from_residual.result c.from_residual.ensures.1 in
    rw (p.1, p.2) (shape_open _ _ c.in_err-opening.ensures)

pub field-v-requires : goal.field-v-requires
field-v-requires c = omega (arith, c.requires, opened _ _ c.in_ok-opening.ensures)

pub field-e-requires : goal.field-e-requires
field-e-requires c = omega (arith, c.requires, opened _ _ c.in_ok-opening.ensures)

pub returns-in_err-counts : goal.returns-in_err-counts
returns-in_err-counts c =
    let p = err_from_is_err_and c.from_residual-in_err-counts.result c.from_residual-in_err-counts.ensures.1 in
    rw (p.1, p.2) (shape_counts _ _ c.field-v.ensures c.field-e.ensures c.in_ok-opening.ensures c.in_err-counts.ensures)

pub closing-requires : goal.closing-requires
closing-requires c =
    let g = c.requires in
    let k = counted _ _ _ c.in_ok-counts.ensures in
    record { narrow = g; v_few = omega (arith, g, k); e_few = omega (arith, g, k) }

pub returns : goal.returns
returns c =
    c.closing.ensures ∙ shape_close _ _ c.field-v.ensures c.field-e.ensures c.in_ok-opening.ensures c.in_ok-counts.ensures

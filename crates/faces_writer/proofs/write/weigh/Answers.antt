-- `faces_writer::write::weigh`: a candidate that is not taken weighs nothing, a taken one what its corner count says.
use mathlib.Core.Path.{sym, ◌∙◌}
use native.Mathlib.Omega.{arith}
use Rattle.faces_reader.proofs.Brief.{corners_small}
use Rattle.faces_writer.proofs.RowAt.{corners_most}
use Rattle.paper.specs.FaceList.{row_at}
use Rattle.faces_writer.proofs.Weight.{weigh_left, weigh_row}
use Rattle.faces_writer.proofs.write.weigh.Goals as goal

pub returns-in_err-c : goal.returns-in_err-c
returns-in_err-c c =
    let a = c.args in
    rw c.from_residual.ensures
    (weigh_row a.f a.rows.now a.solid.now a.k (sym c.is_taken.ensures ∙ c.if-is_taken.true) c.in_err-c.ensures)

pub overflow_mul-result : goal.overflow_mul-result
overflow_mul-result c =
    let a = c.args in
    let few = corners_most a.f (row_at a.rows.now a.k) c.in_ok-c.ensures in
    omega (arith, corners_small c.requires.brief.slender.vertex_number_narrow few)

pub overflow_add-result : goal.overflow_add-result
overflow_add-result c =
    let a = c.args in
    let few = corners_most a.f (row_at a.rows.now a.k) c.in_ok-c.ensures in
    omega (arith, corners_small c.requires.brief.slender.vertex_number_narrow few)

pub returns-then-is_taken : goal.returns-then-is_taken
returns-then-is_taken c =
    let a = c.args in
    weigh_row a.f a.rows.now a.solid.now a.k (sym c.is_taken.ensures ∙ c.if-is_taken.true) c.in_ok-c.ensures

pub returns : goal.returns
returns c =
    let a = c.args in
    weigh_left a.f a.rows.now a.solid.now a.k (sym c.is_taken.ensures ∙ c.if-is_taken.false)

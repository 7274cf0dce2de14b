-- `demanded_together::read_and_written`: the drawing that was read has the sheet's lists.
use mathlib.Core.Path.{sym, ap, subst}
use native.Mathlib.Omega.{arith}
use Rattle.std.proofs.lemmas.Result.{err_from_is_err_and}
use Rattle.pack.specs.Bits.{Under}
use Rattle.paper.specs.Sheet.{Sheet, sheet_of}
use Rattle.paper_laws.specs.InRange.{Held}
use Rattle.sheet_reader.proofs.Range.{read_range}
use Rattle.demanded_together.proofs.Back.{not_read, written_back}
use Rattle.demanded_together.proofs.read_and_written.Goals as goal

pub returns-in_err-drawing : goal.returns-in_err-drawing
unfolding sheet_of
returns-in_err-drawing c =
    let a = c.args in
    let p = err_from_is_err_and c.from_residual.result c.from_residual.ensures.1 in
    rw (p.1, p.2) (not_read a.sheet.now a.room.now (ap (λ (r : Sheet). r.answer) c.in_err-drawing.ensures.result))

pub drawing_written-requires : goal.drawing_written-requires
unfolding sheet_of
drawing_written-requires c =
    let read = c.in_ok-drawing.ensures.result in
    subst (λ (r : Sheet). Held r.drawing) (sym read) (read_range c.args.sheet.now (ap (λ (r : Sheet). r.answer) read))

pub returns : goal.returns
unfolding sheet_of
returns c =
    let a = c.args in
    let bytes : Under 256 a.sheet.now = λ i. omega (arith, c.type_inv.sheet i) in
    let read = c.in_ok-drawing.ensures.result in
    written_back a.sheet.now a.room.now bytes (ap (λ (r : Sheet). r.answer) read) read c.drawing_written.ensures

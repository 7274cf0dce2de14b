-- `verdict::check_sheet`: the checks of the sheet, then what is behind them.
use mathlib.Core.List.{List}
use mathlib.Core.Path.{ap}
use lib.IntN.{ℤ}
use Prim.Native.Nat.{ℕ}
use Rattle.std.proofs.lemmas.Result.{err_from_is_err_and}
use Rattle.paper.specs.Format.{coordinates_in, ends_in, edition_of}
use Rattle.paper.specs.Sheet.{Sheet, sheet_checks, sheet_of}
use Rattle.paper.specs.Drawing.{wire}
use Rattle.paper.specs.Verdict.{verdict_sheet}
use Rattle.paper.specs.Reading.{verdict_says}
use Rattle.walk_input.proofs.Given.{sheet_given, sheet-lists}
use Rattle.verdict.specs.Checked.{VerdictChecked}
use Rattle.verdict.proofs.Deciding.{form_stops, rest_decides}
use Rattle.verdict.proofs.check_sheet.Goals as goal

pub returns-in_err-drawing : goal.returns-in_err-drawing
unfolding verdict_sheet sheet_of
returns-in_err-drawing c =
    let s = c.args.sheet.now in
    let d = wire (coordinates_in (edition_of s) s) (ends_in (edition_of s) s) in
    let p = err_from_is_err_and c.from_residual.result c.from_residual.ensures.1 in
    let e = form_stops d c.args.list.now (sheet_checks (edition_of s) s) (ap (λ (r : Sheet). r.answer) c.in_err-drawing.ensures.result) in
    rw (p.1, p.2) (record { result = e; said = ap verdict_says e })

pub drawing_checked-requires : goal.drawing_checked-requires
unfolding sheet_of
drawing_checked-requires c =
    let e = c.in_ok-drawing.ensures.result in
    sheet_given c.args.sheet.now e (ap (λ (r : Sheet). r.answer) e)

pub returns : goal.returns
unfolding verdict_sheet sheet_of
returns c =
    let a = c.args in
    let s = a.sheet.now in
    let d = wire (coordinates_in (edition_of s) s) (ends_in (edition_of s) s) in
    let read = c.in_ok-drawing.ensures.result in
    let ok = ap (λ (r : Sheet). r.answer) read in
    let e = rest_decides d a.list.now (sheet_checks (edition_of s) s) ok
    (sheet-lists s read ok (λ (xyz : List ℤ) (ends : List ℕ). VerdictChecked xyz ends a.list.now c.drawing_checked.result) c.drawing_checked.ensures) in
    record { result = e; said = ap verdict_says e }

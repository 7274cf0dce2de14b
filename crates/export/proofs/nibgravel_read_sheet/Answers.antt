-- `export::nibgravel_read_sheet`: a sheet that is refused is told so, another is handed over.
use mathlib.Core.Path.{sym, ap, subst}
use Rattle.paper.specs.Sheet.{Sheet, sheet_of}
use Rattle.paper_laws.specs.InRange.{Held}
use Rattle.sheet_reader.proofs.Range.{read_range}
use Rattle.export_words.proofs.Handing.{sheet-refused, sheet-handed}
use Rattle.export.proofs.nibgravel_read_sheet.Goals as goal

pub handed-requires : goal.handed-requires
unfolding sheet_of
handed-requires c =
    let read = c.in-Ok.ensures.result in
    subst (λ (r : Sheet). Held r.drawing) (sym read) (read_range c.args.sheet.now (ap (λ (r : Sheet). r.answer) read))

pub returns-in-Err : goal.returns-in-Err
unfolding sheet_of
returns-in-Err c =
    let a = c.args in
    sheet-refused a.sheet.now a.xyz.now a.ends.now c.tell.ensures c.refusal_said.ensures
    (ap (λ (r : Sheet). r.answer) c.in-Err.ensures.result)

pub returns-in-Ok : goal.returns-in-Ok
unfolding sheet_of
returns-in-Ok c =
    let a = c.args in
    let read = c.in-Ok.ensures.result in
    sheet-handed a.sheet.now a.xyz.now a.ends.now read (ap (λ (r : Sheet). r.answer) read) c.handed.ensures

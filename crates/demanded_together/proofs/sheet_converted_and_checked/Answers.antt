-- `demanded_together::sheet_converted_and_checked`: three calls of one sheet, of which demand 3 holds.
use Rattle.demands.specs.Input.{sheet}
use Rattle.demanded_together.proofs.Agreeing.{agrees}
use Rattle.demanded_together.proofs.sheet_converted_and_checked.Goals as goal

pub returns : goal.returns
returns c =
    let a = c.args in
    agrees (sheet a.sheet.now) a.limit a.faces.now a.solids.now c.convert_sheet.ensures.result a.list.now
    a.other.now c.check_sheet.ensures.result c.check_sheet-2.ensures.result

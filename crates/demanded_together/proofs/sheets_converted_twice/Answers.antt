-- `demanded_together::sheets_converted_twice`: two calls, of which T-13's sentences hold.
use Rattle.demands.specs.Input.{sheet}
use Rattle.demanded_together.proofs.Twice.{converts_twice}
use Rattle.demanded_together.proofs.sheets_converted_twice.Goals as goal

pub returns : goal.returns
returns c =
    let a = c.args in
    converts_twice (sheet a.sheet.now) (sheet a.other_sheet.now) a.limit a.other_limit a.faces.now a.solids.now
    a.other_faces.now a.other_solids.now c.convert_sheet.ensures.result c.convert_sheet-2.ensures.result

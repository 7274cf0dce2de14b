-- `demanded::convert_sheet`: its contract is what demands 1 and 2 are proved of.
use Rattle.demands.specs.Input.{sheet}
use Rattle.demanded.proofs.Demanding.{converts}
use Rattle.demanded.proofs.convert_sheet.Goals as goal

pub returns : goal.returns
returns c =
    let a = c.args in
    converts (sheet a.sheet.now) a.limit a.faces.now a.solids.now c.convert_sheet.ensures.result

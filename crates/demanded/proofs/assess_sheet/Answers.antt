-- `demanded::assess_sheet`: its contract is what demand 1 is proved of.
use Rattle.demands.specs.Input.{sheet}
use Rattle.demanded.proofs.Demanding.{assesses}
use Rattle.demanded.proofs.assess_sheet.Goals as goal

pub returns : goal.returns
returns c =
    let a = c.args in
    assesses (sheet a.sheet.now) a.limit c.assess_sheet.ensures

-- `demanded::check_sheet`: its contract is what demands 1 and 3 are proved of.
use Rattle.demands.specs.Input.{sheet}
use Rattle.demanded.proofs.Demanding.{checks}
use Rattle.demanded.proofs.check_sheet.Goals as goal

pub returns : goal.returns
returns c =
    let a = c.args in
    checks (sheet a.sheet.now) a.list.now c.check_sheet.ensures.result

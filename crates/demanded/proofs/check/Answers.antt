-- `demanded::check`: its contract is what demands 1 and 3 are proved of.
use Rattle.demands.specs.Input.{lent}
use Rattle.demanded.proofs.Demanding.{checks}
use Rattle.demanded.proofs.check.Goals as goal

pub returns : goal.returns
returns c =
    let a = c.args in
    checks (lent a.xyz.now a.ends.now) a.list.now c.check.ensures.result

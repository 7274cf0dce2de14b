-- `demanded::convert`: its contract is what demands 1 and 2 are proved of.
use Rattle.demands.specs.Input.{lent}
use Rattle.demanded.proofs.Demanding.{converts}
use Rattle.demanded.proofs.convert.Goals as goal

pub returns : goal.returns
returns c =
    let a = c.args in
    converts (lent a.xyz.now a.ends.now) a.limit a.faces.now a.solids.now c.convert.ensures.result

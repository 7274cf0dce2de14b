-- `demanded_together::converted_and_checked`: three calls of one drawing, of which demand 3 holds.
use Rattle.demands.specs.Input.{lent}
use Rattle.demanded_together.proofs.Agreeing.{agrees}
use Rattle.demanded_together.proofs.converted_and_checked.Goals as goal

pub returns : goal.returns
returns c =
    let a = c.args in
    agrees (lent a.xyz.now a.ends.now) a.limit a.faces.now a.solids.now c.convert.ensures.result a.list.now
    a.other.now c.check.ensures.result c.check-2.ensures.result

-- `demanded_together::converted_twice`: two calls, of which T-13's sentences hold.
use Rattle.demands.specs.Input.{lent}
use Rattle.demanded_together.proofs.Twice.{converts_twice}
use Rattle.demanded_together.proofs.converted_twice.Goals as goal

pub returns : goal.returns
returns c =
    let a = c.args in
    converts_twice (lent a.xyz.now a.ends.now) (lent a.other_xyz.now a.other_ends.now) a.limit a.other_limit
    a.faces.now a.solids.now
    a.other_faces.now a.other_solids.now c.convert.ensures.result c.convert-2.ensures.result

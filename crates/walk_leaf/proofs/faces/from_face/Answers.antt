-- `walk_leaf::faces::from_face`: the loop keeps that going on from the faces that wait gives the whole answer (`Rounds`). Each turn
-- leaves fewer of those not reached and those waiting.
use Rattle.walk_leaf.proofs.Rounds.{rounds-start, rounds-less, rounds-next, rounds-end}
use Rattle.walk_leaf.proofs.faces.from_face.Goals as goal

pub loop-f-init : goal.loop-f-init
loop-f-init c =
    let a = c.args in
    rounds-start a.on.now a.up.now a.sides.now a.taken a.k c.just-alone.ensures c.none.ensures

pub loop-f-smaller : goal.loop-f-smaller
loop-f-smaller c =
    let a = c.args in
    rounds-less a.on.now a.up.now a.sides.now a.taken a.k c.loop-f.invariant c.in-Some.ensures c.at-edges.ensures
    c.around_face-going.ensures

pub loop-f-preserved : goal.loop-f-preserved
loop-f-preserved c =
    let a = c.args in
    rounds-next a.on.now a.up.now a.sides.now a.taken a.k c.loop-f.invariant c.in-Some.ensures c.at-edges.ensures
    c.around_face-going.ensures

pub returns : goal.returns
returns c =
    let a = c.args in
    rounds-end a.on.now a.up.now a.sides.now a.taken a.k c.loop-f.invariant c.in_default.ensures.0 c.in_default.ensures.1

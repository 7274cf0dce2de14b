-- `walk_leaf::faces::around_face`: the loop keeps that going over the edges left gives the whole round, and that no more wait than are
-- reached anew.
use native.Mathlib.Omega.{arith}
use Rattle.sets.proofs.Laws.{fits-room}
use Rattle.sets.proofs.Sets.{wides_laws}
use Rattle.walk_leaf.proofs.Rounds.{around-start, around-next, around-end}
use Rattle.walk_leaf.proofs.faces.around_face.Goals as goal

pub loop-e-init : goal.loop-e-init
loop-e-init c =
    let a = c.args in
    around-start a.on.now a.up.now a.taken a.f a.g a.edges (fits-room wides_laws a.g.reached (omega arith))

pub loop-e-preserved : goal.loop-e-preserved
loop-e-preserved c =
    let a = c.args in
    around-next a.on.now a.up.now a.taken a.f a.g a.edges c.loop-e.invariant c.in-Some.ensures
    c.at-mask.ensures c.at.ensures c.at_edge-going.ensures

pub returns : goal.returns
returns c =
    let a = c.args in
    around-end a.on.now a.up.now a.taken a.f a.g a.edges c.loop-e.invariant c.in_default.ensures.0

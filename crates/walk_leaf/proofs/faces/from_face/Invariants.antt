-- `walk_leaf::faces::from_face`: the loop keeps that going on from the faces that wait gives the whole answer (`Rounds`). Each turn
-- leaves fewer of those not reached and those waiting.
use Rattle.walk_leaf.proofs.Rounds.{Rounds, togo}
use Rattle.walk_leaf.proofs.faces.from_face.Given as goal

abbrev pub invariant-loop-f : goal.invariant-loop-f
invariant-loop-f l = Rounds l.on l.up l.sides l.taken l.k l.going

abbrev pub decreases-loop-f : goal.decreases-loop-f
decreases-loop-f l = togo l.going

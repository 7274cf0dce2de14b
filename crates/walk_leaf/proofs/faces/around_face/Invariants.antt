-- `walk_leaf::faces::around_face`: the loop keeps that going over the edges left gives the whole round, and that no more wait than are
-- reached anew.
use Rattle.sets.specs.Sets.{wides}
use Rattle.walk_leaf.proofs.Rounds.{Around}
use Rattle.walk_leaf.proofs.faces.around_face.Given as goal

abbrev pub invariant-loop-e : goal.invariant-loop-e
invariant-loop-e l = Around l.on l.up l.taken l.f l.initial.going l.initial.left l.going l.left

abbrev pub decreases-loop-e : goal.decreases-loop-e
decreases-loop-e l = wides.size l.left

-- `walk_leaf::clear`: the loop keeps that the faces left give the whole answer.
use Rattle.sets.specs.Sets.{wides}
use Rattle.walk_leaf.proofs.Sums.{Clear}
use Rattle.walk_leaf.proofs.clear.Given as goal

abbrev pub invariant-loop-k : goal.invariant-loop-k
invariant-loop-k l = Clear l.clashes l.taken l.left

abbrev pub decreases-loop-k : goal.decreases-loop-k
decreases-loop-k l = wides.size l.left

-- `walk_leaf::weight`: the loop keeps that the sum so far and the parts left make the whole sum, and that it is small: at most 64 parts.
use mir.Syntax.{w64}
use mir.Val.{of_z}
use Rattle.sets.specs.Sets.{wides}
use Rattle.walk_leaf.proofs.Sums.{Weighing}
use Rattle.walk_leaf.proofs.weight.Given as goal

abbrev pub invariant-loop-k : goal.invariant-loop-k
invariant-loop-k l = Weighing l.sixes l.initial.left l.turned (of_z w64 l.sum) l.left

abbrev pub decreases-loop-k : goal.decreases-loop-k
decreases-loop-k l = wides.size l.left

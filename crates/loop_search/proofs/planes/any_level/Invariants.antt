-- `loop_search::planes::any_level`: the loop keeps that no vertex gone through is in the plane.
use Rattle.sets.specs.Sets.{size}
use Rattle.loop_search.proofs.Level.{Asking}
use Rattle.loop_search.proofs.planes.any_level.Given as goal

abbrev pub invariant-loop-w : goal.invariant-loop-w
invariant-loop-w l = Asking l.xyz l.s l.m l.initial.left l.left

abbrev pub decreases-loop-w : goal.decreases-loop-w
decreases-loop-w l = size l.left

-- `loop_cover::ask`: the loop keeps that what is left of the open edges has the whole answer.
use Rattle.sets.specs.Sets.{wides}
use Rattle.loop_cover.proofs.Asking.{Asking}
use Rattle.loop_cover.proofs.ask.Given as goal

abbrev pub invariant-loop-e : goal.invariant-loop-e
invariant-loop-e l = Asking l.xyz l.ends l.table l.k l.fn.edges l.fn.f l.held l.open

abbrev pub decreases-loop-e : goal.decreases-loop-e
decreases-loop-e l = wides.size l.open

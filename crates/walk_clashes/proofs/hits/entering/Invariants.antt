-- `walk_clashes::hits::entering`: the loop keeps that what is left of the vertices has the whole answer.
use Rattle.sets.specs.Sets.{size}
use Rattle.walk_clashes.specs.Lent.{EnterLent}
use Rattle.walk_clashes.proofs.Gathering.{Entering}
use Rattle.walk_clashes.proofs.hits.entering.Given as goal

abbrev pub invariant-loop-v : goal.invariant-loop-v
invariant-loop-v l = (w : EnterLent l.xyz l.rows l.at l.g l.m l.initial.open) → Entering w l.open l.found

abbrev pub decreases-loop-v : goal.decreases-loop-v
decreases-loop-v l = size l.open

-- `walk::walk`: at each call fewer are undecided.
use Rattle.sets.specs.Sets.{wides}
use Rattle.walk.proofs.+walk.Given as goal

abbrev pub decreases-walk : goal.decreases-walk
decreases-walk l = wides.size l.b.state.undecided

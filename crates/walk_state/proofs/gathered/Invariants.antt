-- `walk_state::gathered`: the loop keeps that `all` has the edges of the candidates gone through, and that those of `left` are
-- what is missing.
use Rattle.sets.specs.Sets.{wides}
use Rattle.walk_state.proofs.Gathering.{Gathering}
use Rattle.walk_state.proofs.gathered.Given as goal

abbrev pub invariant-loop-k : goal.invariant-loop-k
invariant-loop-k l = Gathering l.sides l.initial.left l.all l.left

abbrev pub decreases-loop-k : goal.decreases-loop-k
decreases-loop-k l = wides.size l.left

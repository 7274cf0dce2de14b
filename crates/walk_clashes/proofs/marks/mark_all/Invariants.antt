-- `walk_clashes::marks::mark_all`: the loop keeps that the words of those that went out are marked.
use Rattle.sets.specs.Sets.{size}
use Rattle.walk_clashes.proofs.Marking.{Marking}
use Rattle.walk_clashes.proofs.marks.mark_all.Given as goal

abbrev pub invariant-loop-j : goal.invariant-loop-j
invariant-loop-j l = Marking l.initial.open l.k l.initial.words l.open l.words

abbrev pub decreases-loop-j : goal.decreases-loop-j
decreases-loop-j l = size l.open

-- `walk_clashes::hits::piercing`: the loop keeps that what is left of the vertices above has the whole answer.
use Rattle.sets.specs.Sets.{size}
use Rattle.walk_clashes.specs.Lent.{PierceLent}
use Rattle.walk_clashes.proofs.Gathering.{Going}
use Rattle.walk_clashes.proofs.hits.piercing.Given as goal

abbrev pub invariant-loop-a : goal.invariant-loop-a
invariant-loop-a l = (w : PierceLent l.xyz l.rows l.near l.number l.on l.g l.m l.fn.s) → Going w l.open l.found

abbrev pub decreases-loop-a : goal.decreases-loop-a
decreases-loop-a l = size l.open

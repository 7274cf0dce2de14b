-- `rooms::copy`: the loop keeps that the first i entries are copied.
use Rattle.rooms.proofs.Copying.{Copying}
use Rattle.rooms.proofs.copy.Given as goal

abbrev pub invariant-loop-i : goal.invariant-loop-i
invariant-loop-i g l = Copying l.m l.from l.initial.room l.room l.i

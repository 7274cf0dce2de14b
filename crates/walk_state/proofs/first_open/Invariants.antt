-- `walk_state::first_open`: the loop keeps that the answer is that of the search from this edge on.
use Rattle.walk_state.proofs.Choosing.{Looking}
use Rattle.walk_state.proofs.first_open.Given as goal

abbrev pub invariant-loop-edge : goal.invariant-loop-edge
invariant-loop-edge l = Looking l.on l.m l.undecided l.from l.edge

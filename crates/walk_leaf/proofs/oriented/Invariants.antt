-- `walk_leaf::oriented`: the loop keeps that the edges from e on give the whole answer.
use Prim.Native.Nat.{◌≤◌}
use Rattle.walk_leaf.proofs.Directions.{Asking}
use Rattle.walk_leaf.proofs.oriented.Given as goal

abbrev pub invariant-loop-e : goal.invariant-loop-e
invariant-loop-e l = (l.e ≤ l.m) × Asking l.on l.up l.m l.taken l.turned l.e

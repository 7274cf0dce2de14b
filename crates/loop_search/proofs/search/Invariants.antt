-- `loop_search::search`: the loop keeps that the rooms hold the loops of the starts gone through.
use Prim.Native.Nat.{◌-◌}
use Rattle.loop_search.specs.Rooms.{rooms}
use Rattle.loop_search.proofs.Whole.{Searching}
use Rattle.loop_search.proofs.search.Given as goal

abbrev pub invariant-loop-s : goal.invariant-loop-s
invariant-loop-s l = Searching l.xyz l.near l.v (rooms l.initial.table l.initial.planes l.initial.c) l.path (rooms l.table l.planes l.c) l.s

abbrev pub decreases-loop-s : goal.decreases-loop-s
decreases-loop-s l = l.v - l.s

-- `loop_search::starting_at`: the loop keeps that the rooms hold the loops whose second vertex was gone through.
use Rattle.sets.specs.Sets.{size}
use Rattle.loop_search.specs.Rooms.{rooms}
use Rattle.loop_search.proofs.Starting.{Starting}
use Rattle.loop_search.proofs.starting_at.Given as goal

abbrev pub invariant-loop-w : goal.invariant-loop-w
invariant-loop-w l = Starting l.xyz l.near l.v l.s l.initial.path (rooms l.initial.table l.initial.planes l.initial.c) l.path (rooms l.table l.planes l.c) l.later

abbrev pub decreases-loop-w : goal.decreases-loop-w
decreases-loop-w l = size l.later

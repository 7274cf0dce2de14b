-- `loop_search::paths::in_plane`: the loop keeps that the rooms hold what was found by way of the neighbours gone through.
use Prim.Native.Nat.{◌-◌}
use Rattle.sets.specs.Sets.{size}
use Rattle.paper.specs.Numbers.{most_corners}
use Rattle.loop_search.specs.Rooms.{rooms}
use Rattle.loop_search.proofs.Deeper.{Turning}
use Rattle.loop_search.proofs.paths.+in_plane.Given as goal

-- a path that is one longer is nearer to the most corners
abbrev pub decreases-in_plane : goal.decreases-in_plane
decreases-in_plane l = most_corners - l.len

abbrev pub invariant-loop-w : goal.invariant-loop-w
invariant-loop-w l = Turning l.near l.initial.path l.len l.free l.closing l.plane (rooms l.initial.table l.initial.planes l.initial.c) l.path (rooms l.table l.planes l.c) l.left

abbrev pub decreases-loop-w : goal.decreases-loop-w
decreases-loop-w l = size l.left

-- `loop_search::lines::{on_line, step}` call each other: `step` is at less than the `on_line` that calls it, and the next `on_line`, with
-- one vertex more, at less than `step`. The loop of `on_line` keeps that the rooms hold what was found by way of the neighbours gone
-- through.
use Prim.Native.Nat.{◌+◌, ◌*◌, ◌-◌}
use Rattle.sets.specs.Sets.{size}
use Rattle.paper.specs.Numbers.{most_corners}
use Rattle.loop_search.specs.Rooms.{rooms}
use Rattle.loop_search.proofs.Straight.{Passing}
use Rattle.loop_search.proofs.lines.+on_line_step.Given as goal

abbrev pub decreases-on_line : goal.decreases-on_line
decreases-on_line l = 2 * (most_corners - l.len) + 1

abbrev pub decreases-step : goal.decreases-step
decreases-step l = 2 * (most_corners - l.len)

abbrev pub invariant-on_line-loop-w : goal.invariant-on_line-loop-w
invariant-on_line-loop-w l =
    Passing l.xyz l.near l.initial.path l.len l.free l.closing l.v (rooms l.initial.table l.initial.planes l.initial.c) l.path
    (rooms l.table l.planes l.c) l.left

abbrev pub decreases-on_line-loop-w : goal.decreases-on_line-loop-w
decreases-on_line-loop-w l = size l.left

-- `loop_search::lines::{on_line, step}`: a turn of the loop keeps what the neighbours gone through gave, and each turn of the path has a law.
use mathlib.Core.Path.{◌≡◌}
use Prim.Native.Nat.{◌+◌, ◌*◌, ◌-◌}
use native.Mathlib.Omega.{arith}
use Rattle.paper.specs.Numbers.{most_corners}
use Rattle.loop_search.specs.Rooms.{rooms}
use Rattle.loop_search.proofs.Straight.{line_most, line-none, passing-start, passing_at, passing-next, passing-end, passing_full}
use Rattle.loop_search.proofs.Steps.{turn_at_lem, line_at, plane_at, stepped_dead, stepped_line, stepped_plane}
use Rattle.loop_search.proofs.lines.+on_line_step.Goals as goal

pub on_line-returns-then-len-ge-MOST_CORNERS : goal.on_line-returns-then-len-ge-MOST_CORNERS
on_line-returns-then-len-ge-MOST_CORNERS t c = line_most c.requires.sized c.if-len-ge-MOST_CORNERS.true

pub on_line-returns-then-is_empty : goal.on_line-returns-then-is_empty
on_line-returns-then-is_empty t c = line-none c.requires.sized c.and.ensures c.if-is_empty.ensures

pub on_line-loop-w-init : goal.on_line-loop-w-init
on_line-loop-w-init t c =
    let a = c.args in
    passing-start a.xyz.now a.near.now a.path.now a.len a.free a.closing a.v (rooms a.table.now a.planes.now a.count)
    c.requires.sized c.requires.free_below c.onward-left.ensures

pub on_line-returns-then-c-gt-MOST_LOOPS : goal.on_line-returns-then-c-gt-MOST_LOOPS
on_line-returns-then-c-gt-MOST_LOOPS t c =
    let a = c.args in
    passing_full a.xyz.now a.near.now a.path.now a.len a.free a.closing a.v (rooms a.table.now a.planes.now a.count)
    c.requires.path_at c.if-len-ge-MOST_CORNERS.false c.and.ensures c.if-is_empty.ensures c.loop-w.invariant
    c.if-c-gt-MOST_LOOPS.true

pub on_line-step-c-requires : goal.on_line-step-c-requires
on_line-step-c-requires t c =
    let a = c.args in
    let m : 2 * (most_corners - a.len) + 1 ≡ t = c.decreases in (
      omega arith,
      passing_at a.xyz.now a.near.now a.path.now a.len a.free a.closing a.v (rooms a.table.now a.planes.now a.count)
          c.requires.path_at c.if-len-ge-MOST_CORNERS.false c.requires c.loop-w.invariant c.in-Some.ensures,
    )

pub on_line-loop-w-preserved : goal.on_line-loop-w-preserved
on_line-loop-w-preserved t c =
    let a = c.args in
    passing-next a.xyz.now a.near.now a.path.now a.len a.free a.closing a.v (rooms a.table.now a.planes.now a.count)
    c.requires.path_at c.if-len-ge-MOST_CORNERS.false c.loop-w.invariant c.in-Some.ensures c.step-c.ensures

pub on_line-returns : goal.on_line-returns
on_line-returns t c =
    let a = c.args in
    passing-end a.xyz.now a.near.now a.path.now a.len a.free a.closing a.v (rooms a.table.now a.planes.now a.count)
    c.requires.path_at c.if-len-ge-MOST_CORNERS.false c.and.ensures c.if-is_empty.ensures c.loop-w.invariant
    c.in_default.ensures.0

-- ---- a step

pub step-turned-t-requires : goal.step-turned-t-requires
step-turned-t-requires t c = turn_at_lem c.args.near.now c.requires c.wide-w.result c.wide-w.ensures c.and.ensures

pub step-on_line-requires : goal.step-on_line-requires
step-on_line-requires t c =
    let m : 2 * (most_corners - c.args.len) ≡ t = c.decreases in (
      omega (arith, m, c.requires.path_at.most),
      line_at c.args.near.now c.requires c.wide-w.result c.wide-w.ensures c.without-rest.ensures,
    )

pub step-in_plane-requires : goal.step-in_plane-requires
step-in_plane-requires t c =
    plane_at c.args.near.now c.requires c.wide-w.result c.wide-w.ensures c.and.ensures c.without-rest.ensures
    c.in-Plane.ensures c.and-in-Plane.ensures

pub step-returns-in-Line : goal.step-returns-in-Line
step-returns-in-Line t c =
    stepped_line c.args.near.now c.requires c.wide-w.result c.wide-w.ensures c.and.ensures c.without-rest.ensures
    c.in-Line.ensures c.on_line.ensures

pub step-returns-in-Dead : goal.step-returns-in-Dead
step-returns-in-Dead t c =
    stepped_dead c.args.near.now c.requires c.wide-w.result c.wide-w.ensures c.and.ensures c.in-Dead.ensures

pub step-returns-in-Plane : goal.step-returns-in-Plane
step-returns-in-Plane t c =
    stepped_plane c.args.near.now c.requires c.wide-w.result c.wide-w.ensures c.and.ensures c.without-rest.ensures
    c.in-Plane.ensures c.and-in-Plane.ensures c.in_plane.ensures

-- `loop_search::paths::in_plane`: the loop keeps that the rooms hold what was found by way of the neighbours gone through.
use Prim.Native.Nat.{◌-◌}
use mathlib.Core.Path.{◌≡◌}
use native.Mathlib.Omega.{arith}
use Rattle.paper.specs.Numbers.{most_corners}
use Rattle.loop_search.specs.Rooms.{rooms}
use Rattle.loop_search.proofs.Deeper.{at_most, none-closes, turning_start, turning_at, turning_next, turning_end, turning_full}
use Rattle.loop_search.proofs.paths.+in_plane.Goals as goal

pub returns-then-len-ge-MOST_CORNERS : goal.returns-then-len-ge-MOST_CORNERS
returns-then-len-ge-MOST_CORNERS t c = at_most c.take_if_closed-c.ensures c.if-len-ge-MOST_CORNERS.true

pub returns-then-is_empty : goal.returns-then-is_empty
returns-then-is_empty t c = none-closes c.take_if_closed-c.ensures c.and.ensures c.if-is_empty.ensures

pub loop-w-init : goal.loop-w-init
loop-w-init t c =
    let a = c.args in
    let k = c.take_if_closed-c in
    turning_start a.near.now a.path.now a.len a.free a.closing a.plane (rooms k.new.table k.new.planes k.result) k.ensures.sized
    c.requires.free_below c.onward-left.ensures

pub returns-then-c-gt-MOST_LOOPS : goal.returns-then-c-gt-MOST_LOOPS
returns-then-c-gt-MOST_LOOPS t c =
    let a = c.args in
    let k = c.take_if_closed-c in
    turning_full a.near.now a.path.now a.len a.free a.closing a.plane (rooms k.new.table k.new.planes k.result) c.requires.path_at
    c.if-len-ge-MOST_CORNERS.false k.ensures c.and.ensures c.if-is_empty.ensures c.loop-w.invariant c.if-c-gt-MOST_LOOPS.true

pub in_plane-c-requires : goal.in_plane-c-requires
in_plane-c-requires t c =
    let a = c.args in
    let k = c.take_if_closed-c in
    let m : most_corners - a.len ≡ t = c.decreases in (
      omega arith,
      turning_at a.near.now a.path.now a.len a.free a.closing a.plane (rooms k.new.table k.new.planes k.result) c.requires.path_at
          c.if-len-ge-MOST_CORNERS.false c.loop-w.invariant c.in-Some.ensures c.requires.free_below c.without.ensures,
    )

pub loop-w-preserved : goal.loop-w-preserved
loop-w-preserved t c =
    let a = c.args in
    let k = c.take_if_closed-c in
    turning_next a.near.now a.path.now a.len a.free a.closing a.plane (rooms k.new.table k.new.planes k.result) c.requires.path_at
    c.if-len-ge-MOST_CORNERS.false c.loop-w.invariant c.in-Some.ensures c.without.ensures c.in_plane-c.ensures

pub returns : goal.returns
returns t c =
    let a = c.args in
    let k = c.take_if_closed-c in
    turning_end a.near.now a.path.now a.len a.free a.closing a.plane (rooms k.new.table k.new.planes k.result) c.requires.path_at
    c.if-len-ge-MOST_CORNERS.false k.ensures c.and.ensures c.if-is_empty.ensures c.loop-w.invariant c.in_default.ensures.0

-- `loop_search::planes::any_level`: the loop keeps that no vertex gone through is in the plane.
use native.Mathlib.Omega.{arith}
use Rattle.loop_search.proofs.Deeper.{first_below}
use Rattle.loop_search.proofs.Level.{asking_start, asking_next, asking_met, asking_end, plane_small, level_is}
use Rattle.loop_search.proofs.planes.any_level.Goals as goal

pub loop-w-init : goal.loop-w-init
loop-w-init c = asking_start c.args.xyz.now c.args.s c.args.m c.requires

pub point_at-requires : goal.point_at-requires
point_at-requires c =
    let k = c.loop-w.invariant.asked in
    omega (arith, first_below k.below c.in-Some.ensures, k.plane.points.whole)

pub plane_side-requires : goal.plane_side-requires
plane_side-requires c = plane_small c.loop-w.invariant.asked.plane c.in-Some.w c.point_at.result c.point_at.ensures

pub returns-then-is_zero : goal.returns-then-is_zero
returns-then-is_zero c =
    let a = c.args in
    let k = c.loop-w.invariant in
    asking_met a.xyz.now a.s a.m k c.in-Some.ensures
    (level_is k.asked.plane c.in-Some.w c.point_at.ensures c.plane_side.ensures c.plane_side.type_inv c.if-is_zero.ensures)

pub loop-w-preserved : goal.loop-w-preserved
loop-w-preserved c =
    let a = c.args in
    let k = c.loop-w.invariant in
    asking_next a.xyz.now a.s a.m k c.in-Some.ensures
    (level_is k.asked.plane c.in-Some.w c.point_at.ensures c.plane_side.ensures c.plane_side.type_inv c.if-is_zero.ensures)

pub returns : goal.returns
returns c = asking_end c.args.xyz.now c.args.s c.args.m c.loop-w.invariant c.in_default.ensures.0

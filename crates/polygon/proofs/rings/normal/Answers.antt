-- `polygon::rings::normal`: the loop keeps that the sum is that of the first j sides, and that a is corner j.
use mathlib.Core.Path.{◌∙◌, sym}
use native.Mathlib.Omega.{arith}
use Rattle.paper.specs.Points.{cross, plus}
use Rattle.paper.specs.Polygon.{Polygon}
use Rattle.polygon.specs.Rings.{ring}
use Rattle.polygon.proofs.Areas.{normal-all, normal_more, normal-none, normal_to_small}
use Rattle.polygon.proofs.Rows.{corner_small, ring_length, ring_most, corner_in, corner-near}
use Rattle.polygon.proofs.Sizes.{cross_small, small_eq, small_up}
use Rattle.polygon.proofs.rings.normal.Goals as goal

abbrev R : goal.After-corner-a → Polygon
R c = ring c.args.xyz.now c.args.table.now c.args.r

abbrev R-2 : goal.After-cross → Polygon
R-2 c = ring c.args.xyz.now c.args.table.now c.args.r

abbrev R-3 : goal.After-plus-sum → Polygon
R-3 c = ring c.args.xyz.now c.args.table.now c.args.r

abbrev R-4 : goal.After-loop-j → Polygon
R-4 c = ring c.args.xyz.now c.args.table.now c.args.r

-- ---- the needs

pub corner-a-requires : goal.corner-a-requires
corner-a-requires c = corner_in c.requires _ (omega arith)

pub loop-j-init : goal.loop-j-init
loop-j-init c =
    (omega arith, c.count-n.ensures ∙ sym (ring_length c.requires), sym (normal-none (R c)), c.corner-a.ensures)

pub corner-b-requires : goal.corner-b-requires
corner-b-requires c = corner_in c.requires _ (omega arith)

pub cross-requires : goal.cross-requires
cross-requires c =
    let row = c.requires in
    record {
      a_in = small_up tt (corner-near row _ c.loop-j.invariant.3);
      b_in = small_up tt (corner-near row _ c.corner-b.ensures);
    }

pub plus-sum-requires : goal.plus-sum-requires
plus-sum-requires c =
    let row = c.requires in
    let one = cross_small (corner-near row _ c.loop-j.invariant.3) (corner-near row _ c.corner-b.ensures) in
    record {
      a_in = small_eq c.loop-j.invariant.2 (normal_to_small (R-2 c) (corner_small row) (ring_most row) c.loop-j.j (omega arith));
      b_in = small_eq c.cross.ensures (small_up tt one);
    }

pub loop-j-preserved : goal.loop-j-preserved
loop-j-preserved c =
    let b = c.corner-b.ensures in
    let one = c.cross.ensures ∙ (λ i. cross (c.loop-j.invariant.3 i) (b i)) in
    let sum = c.plus-sum.ensures ∙ (λ i. plus (c.loop-j.invariant.2 i) (one i)) ∙ sym (normal_more (R-3 c) c.loop-j.j (omega arith)) in
    (omega arith, c.loop-j.invariant.1, sum, b)

pub returns : goal.returns
returns c = c.loop-j.invariant.2 ∙ normal-all (R-4 c) c.loop-j.j (omega arith)

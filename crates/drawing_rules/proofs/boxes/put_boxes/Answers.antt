-- `drawing_rules::boxes::put_boxes`: the loop keeps that the first e boxes are those of the edges.
use mathlib.Core.Path.{◌∙◌, refl, ap}
use Prim.Native.Nat.{◌*◌, ◌+◌, ◌<◌}
use native.Mathlib.Omega.{arith}
use lib.ListN.{length}
use Rattle.paper.specs.Numbers.{most_edges}
use Rattle.drawing_segments.specs.Ways.{span_of}
use Rattle.drawing_rules.specs.Boxes.{box_in}
use Rattle.drawing_rules.proofs.Corners.{one_more, put_length}
use Rattle.drawing_rules.proofs.boxes.put_boxes.Invariants.{boxOf}
use Rattle.drawing_rules.proofs.boxes.put_boxes.Goals as goal

-- ---- edge e is one of few, and there is room for its box

few : (c : goal.After-put_point-arg-in-loop-e-1) → c.loop-e.e < most_edges
few c = let q = c.requires.lists.links in omega (arith, q.whole, q.most)

room : (c : goal.After-put_point-arg-in-loop-e-1)
    → let l = c.loop-e in (3 * l.e + 2 < length l.low) × (3 * l.e + 2 < length l.high)
room c =
    let l = c.loop-e in
    let p = c.requires in
    (omega (arith, few c, l.invariant.low-kept, p.low_room), omega (arith, few c, l.invariant.high-kept, p.high_room))

few-2 : (c : goal.After-put_point-arg-in-loop-e-3-1) → c.loop-e.e < most_edges
few-2 c = let q = c.requires.lists.links in omega (arith, q.whole, q.most)

room-2 : (c : goal.After-put_point-arg-in-loop-e-3-1)
    → let l = c.loop-e in (3 * l.e + 2 < length l.low) × (3 * l.e + 2 < length l.high)
room-2 c =
    let l = c.loop-e in
    let p = c.requires in
    (omega (arith, few-2 c, l.invariant.low-kept, p.low_room), omega (arith, few-2 c, l.invariant.high-kept, p.high_room))

few-3 : (c : goal.After-high-1) → c.loop-e.e < most_edges
few-3 c = let q = c.requires.lists.links in omega (arith, q.whole, q.most)

room-3 : (c : goal.After-high-1)
    → let l = c.loop-e in (3 * l.e + 2 < length l.low) × (3 * l.e + 2 < length l.high)
room-3 c =
    let l = c.loop-e in
    let p = c.requires in
    (omega (arith, few-3 c, l.invariant.low-kept, p.low_room), omega (arith, few-3 c, l.invariant.high-kept, p.high_room))

-- ---- the needs

pub loop-e-init : goal.loop-e-init
loop-e-init c = record { not_past = omega arith; whole = refl; low-kept = refl; high-kept = refl; boxes = λ k h. absurd (omega arith) }

pub end_at-requires : goal.end_at-requires
end_at-requires c = record { lists = c.requires.lists; k_in = omega arith }

pub end_at-requires-in-loop-e : goal.end_at-requires-in-loop-e
end_at-requires-in-loop-e c = record { lists = c.requires.lists; k_in = omega arith }

pub put_point-requires : goal.put_point-requires
put_point-requires c = (room c).0

pub put_point-requires-in-loop-e : goal.put_point-requires-in-loop-e
put_point-requires-in-loop-e c = (room-2 c).1

pub loop-e-preserved : goal.loop-e-preserved
loop-e-preserved c =
    let a = c.args in
    let low-is = c.put_point.ensures in
    let high_is = c.put_point-in-loop-e.ensures in
    let box = c.span_of-s.result in
    let here = c.span_of-s.ensures ∙ (λ i. span_of (c.end_at.ensures i) (c.end_at-in-loop-e.ensures i)) in
    let more = one_more c.loop-e.low c.loop-e.high c.loop-e.e (boxOf a.xyz.now a.ends.now) (room-3 c).0 (room-3 c).1 c.loop-e.invariant.boxes box here in
    record {
      not_past = omega arith;
      whole = c.loop-e.invariant.whole;
      low-kept = ap length low-is ∙ put_length c.loop-e.low c.loop-e.e box.low ∙ c.loop-e.invariant.low-kept;
      high-kept = ap length high_is ∙ put_length c.loop-e.high c.loop-e.e box.high ∙ c.loop-e.invariant.high-kept;
      boxes = λ k h. (λ i. box_in (low-is i) (high_is i) k) ∙ more k h;
    }

pub shape_of-low : goal.shape_of-low
shape_of-low c = c.loop-e.invariant.low-kept

pub shape_of-high : goal.shape_of-high
shape_of-high c = c.loop-e.invariant.high-kept

pub returns : goal.returns
returns c = record { each = λ e h. c.loop-e.invariant.boxes e (omega arith) }

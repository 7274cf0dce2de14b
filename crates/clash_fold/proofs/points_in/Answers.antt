-- `clash_fold::points_in`: the loop keeps that what is left of the corners decides, and that a and p are corners j and j + 1.
use mathlib.Core.Bool.{Bool, ◌&&◌}
use mathlib.Core.Path.{◌∙◌, ◌≡◌, ap, refl, sym}
use Prim.Native.Nat.{◌+◌, ◌≤◌}
use native.Mathlib.Omega.{arith}
use lib.ListN.{length}
use Rattle.lists.specs.Lists.{any_true, sides}
use Rattle.paper.specs.Clash.{in_angle, points_in, to, turns_at}
use Rattle.paper.specs.Points.{same_point}
use Rattle.paper.specs.Polygon.{Polygon}
use Rattle.polygon.specs.Rings.{corner_of, ring}
use Rattle.clash_fold.proofs.Angles.{turns_end, turns_hit, turns_miss, turns_here}
use Rattle.polygon.proofs.Planes.{face-normal}
use Rattle.polygon.proofs.Rows.{ring_least, ring_length, corner_in, corner-near}
use Rattle.polygon.proofs.Sizes.{minus_small, small_eq}
use Rattle.clash_fold.proofs.points_in.Goals as goal

-- ---- the row, the direction, and the code's test of corner j + 1

abbrev R : goal.Then-turns_at → Polygon
R c = ring c.args.xyz.now c.args.table.now c.args.r

-- what is found with the code's normal and direction is the answer
answer : (c : goal.Then-turns_at)
    → let u = c.args.u in
    any_true (sides (turns_at c.args.m u c.minus-w.result) (sides to (R c))) ≡ points_in (R c) u c.args.v
unfolding points_in
answer c =
    λ i. any_true (sides (turns_at (c.requires.face.across i) c.args.u (c.minus-w.ensures i)) (sides to (R c)))

here : (c : goal.Then-turns_at) {b : Bool} → c.turns_at.result ≡ b
    → turns_here c.args.m c.args.u c.minus-w.result (R c) c.loop-j.j ≡ b
here c e =
    let a = c.args in
    let w = c.minus-w.result in
    let p = sym c.loop-j.invariant.p-is in
    let q = sym c.loop-j.invariant.a_is in
    let b = sym c.corner-b.ensures in
    (λ i. same_point (p i) a.u && in_angle a.m (q i) (p i) (b i) w) ∙ sym c.turns_at.ensures ∙ e

two : (c : goal.Then-turns_at) → 2 ≤ length (R c)
two c = omega (arith, ring_least c.requires.face.row)

abbrev R-2 : goal.Else-turns_at → Polygon
R-2 c = ring c.args.xyz.now c.args.table.now c.args.r

here-2 : (c : goal.Else-turns_at) {b : Bool} → c.turns_at.result ≡ b
    → turns_here c.args.m c.args.u c.minus-w.result (R-2 c) c.loop-j.j ≡ b
here-2 c e =
    let a = c.args in
    let w = c.minus-w.result in
    let p = sym c.loop-j.invariant.p-is in
    let q = sym c.loop-j.invariant.a_is in
    let b = sym c.corner-b.ensures in
    (λ i. same_point (p i) a.u && in_angle a.m (q i) (p i) (b i) w) ∙ sym c.turns_at.ensures ∙ e

two-2 : (c : goal.Else-turns_at) → 2 ≤ length (R-2 c)
two-2 c = omega (arith, ring_least c.requires.face.row)

abbrev R-3 : goal.After-loop-j → Polygon
R-3 c = ring c.args.xyz.now c.args.table.now c.args.r

answer-2 : (c : goal.After-loop-j)
    → let u = c.args.u in
    any_true (sides (turns_at c.args.m u c.minus-w.result) (sides to (R-3 c))) ≡ points_in (R-3 c) u c.args.v
unfolding points_in
answer-2 c =
    λ i. any_true (sides (turns_at (c.requires.face.across i) c.args.u (c.minus-w.ensures i)) (sides to (R-3 c)))

-- ---- the needs

pub corner-a-requires : goal.corner-a-requires
corner-a-requires c = corner_in c.requires.face.row _ (omega arith)

pub corner-p-requires : goal.corner-p-requires
corner-p-requires c = corner_in c.requires.face.row _ (omega arith)

pub loop-j-init : goal.loop-j-init
loop-j-init c =
    record {
      not_past = omega arith;
      whole = c.count-n.ensures ∙ sym (ring_length c.requires.face.row);
      left = refl;
      a_is = c.corner-a.ensures;
      p-is = c.corner-p.ensures;
    }

pub corner-b-requires : goal.corner-b-requires
corner-b-requires c = corner_in c.requires.face.row _ (omega arith)

pub turns_at-requires : goal.turns_at-requires
turns_at-requires c =
    let s = c.requires in
    let row = s.face.row in
    record {
      angle =
          record {
            m_in = face-normal s.face;
            a_in = corner-near row _ c.loop-j.invariant.a_is;
            p_in = corner-near row _ c.loop-j.invariant.p-is;
            b_in = corner-near row _ c.corner-b.ensures;
            w_in = small_eq c.minus-w.ensures (minus_small s.v_in s.u_in);
          };
      u_in = s.u_in;
    }

pub returns-then-turns_at : goal.returns-then-turns_at
returns-then-turns_at c =
    let inside = here c c.if-turns_at.true in
    sym (turns_hit c.args.m c.args.u c.minus-w.result (R c) c.loop-j.j (two c) (omega arith) c.loop-j.invariant.left inside)
    ∙ answer c

pub loop-j-preserved : goal.loop-j-preserved
loop-j-preserved c =
    let outside = here-2 c c.if-turns_at.false in
    let after : c.loop-j.j + 2 ≡ c.loop-j.j + 1 + 1 = omega arith in
    record {
      not_past = omega arith;
      whole = c.loop-j.invariant.whole;
      left =
          turns_miss c.args.m c.args.u c.minus-w.result (R-2 c) c.loop-j.j (two-2 c) (omega arith) c.loop-j.invariant.left outside;
      a_is = c.loop-j.invariant.p-is;
      p-is = c.corner-b.ensures ∙ ap (corner_of (R-2 c)) after;
    }

pub returns : goal.returns
returns c =
    sym (turns_end c.args.m c.args.u c.minus-w.result (R-3 c) c.loop-j.j (omega arith) c.loop-j.invariant.left)
    ∙ answer-2 c

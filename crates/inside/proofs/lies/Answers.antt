-- `inside::lies`: the loop keeps that the point is on no side before corner j, whether an odd number of them is over it, and that a
-- is corner j as it is seen.
use mathlib.Core.Bool.{Bool, ◌&&◌, false, xor}
use mathlib.Core.Path.{◌∙◌, ◌≡◌, ap, refl, subst, sym}
use Prim.Native.Nat.{◌+◌, ◌<◌}
use native.Mathlib.Omega.{arith}
use lib.IntN.{ℤ}
use lib.ListN.{length}
use mir.Syntax.{w64}
use mir.Val.{of_z, to_z}
use Rattle.exact.proofs.Machine.{plain}
use Rattle.exact.specs.Size.{Within}
use Rattle.lists.proofs.Search.{any_true-search}
use Rattle.lists.proofs.Sides.{odd_more, side_end, side_hit, side_miss, sides_all}
use Rattle.lists.specs.Lists.{any_true, odd_true, sides}
use Rattle.paper.specs.Numbers.{farthest}
use Rattle.paper.specs.Points.{is_zero, origin}
use Rattle.paper.specs.Polygon.{Polygon, axis, between, crosses, lies, meets_ray, over, placed, seen, touches, turn}
use Rattle.paper.specs.declared.Axis.{Axis}
use Rattle.paper.specs.declared.Flat.{Flat}
use Rattle.paper.specs.declared.Point.{Point}
use Rattle.polygon.specs.Rings.{corner_of, ring}
use Rattle.polygon.specs.Sizes.{FlatWithin, most_scale}
use Rattle.polygon.proofs.Rows.{corner_in, corner_small, ring_length}
use Rattle.polygon.proofs.Zeros.{reads_back}
use Rattle.inside.proofs.Views.{On, Over, flat_eq, lies_is, seen_small}
use Rattle.inside.proofs.lies.Goals as goal

abbrev D : goal.After-seen-b → ℤ
D c = to_z w64 (of_z w64 c.args.d)

-- ---- what is known of them

d-within : (c : goal.After-seen-b) → Within most_scale (D c)
d-within c = subst (λ (z : ℤ). Within most_scale z) (sym (plain c.ranges.d).reading) c.requires.d_in

abbrev View : goal.After-seen-b → Axis
View c = c.axis_of-v.result

a_small : (c : goal.After-seen-b) → FlatWithin farthest c.loop-j.a
a_small c = flat_eq c.loop-j.invariant.a_is (seen_small (View c) (corner_small c.requires.face.row _))

-- ---- what the code works on: the ring, the axis, the point q / d, and the side from corner j to the one after it

abbrev R : goal.After-seen-b → Polygon
R c = ring c.args.xyz.now c.args.table.now c.args.r

abbrev B : goal.After-seen-b → Point
B c = corner_of (R c) (c.loop-j.j + 1)

b_is : (c : goal.After-seen-b) → c.seen-b.result ≡ seen (View c) (B c)
b_is c = c.seen-b.ensures ∙ ap (seen (View c)) c.corner-in-loop-j.ensures

b-small : (c : goal.After-seen-b) → FlatWithin farthest c.seen-b.result
b-small c = flat_eq (b_is c) (seen_small (View c) (corner_small c.requires.face.row _))

abbrev D-2 : goal.After-turn-t → ℤ
D-2 c = to_z w64 (of_z w64 c.args.d)

d-within-2 : (c : goal.After-turn-t) → Within most_scale (D-2 c)
d-within-2 c = subst (λ (z : ℤ). Within most_scale z) (sym (plain c.ranges.d).reading) c.requires.d_in

abbrev View-2 : goal.After-turn-t → Axis
View-2 c = c.axis_of-v.result

a_small-2 : (c : goal.After-turn-t) → FlatWithin farthest c.loop-j.a
a_small-2 c = flat_eq c.loop-j.invariant.a_is (seen_small (View-2 c) (corner_small c.requires.face.row _))

abbrev R-2 : goal.After-turn-t → Polygon
R-2 c = ring c.args.xyz.now c.args.table.now c.args.r

abbrev B-2 : goal.After-turn-t → Point
B-2 c = corner_of (R-2 c) (c.loop-j.j + 1)

b_is-2 : (c : goal.After-turn-t) → c.seen-b.result ≡ seen (View-2 c) (B-2 c)
b_is-2 c = c.seen-b.ensures ∙ ap (seen (View-2 c)) c.corner-in-loop-j.ensures

b-small-2 : (c : goal.After-turn-t) → FlatWithin farthest c.seen-b.result
b-small-2 c = flat_eq (b_is-2 c) (seen_small (View-2 c) (corner_small c.requires.face.row _))

abbrev View-3 : goal.Then-touches → Axis
View-3 c = c.axis_of-v.result

abbrev D-3 : goal.Then-touches → ℤ
D-3 c = to_z w64 (of_z w64 c.args.d)

abbrev Q : goal.Then-touches → Flat
Q c = c.seen-q.result

abbrev R-3 : goal.Then-touches → Polygon
R-3 c = ring c.args.xyz.now c.args.table.now c.args.r

abbrev A : goal.Then-touches → Point
A c = corner_of (R-3 c) c.loop-j.j

abbrev B-3 : goal.Then-touches → Point
B-3 c = corner_of (R-3 c) (c.loop-j.j + 1)

turn_is : (c : goal.Then-touches)
    → to_z w64 (of_z w64 c.turn-t.result) ≡ turn c.loop-j.a c.seen-b.result (Q c) (D-3 c)
turn_is c = reads_back c.turn-t.result c.turn-t.type_inv ∙ c.turn-t.ensures

b_is-3 : (c : goal.Then-touches) → c.seen-b.result ≡ seen (View-3 c) (B-3 c)
b_is-3 c = c.seen-b.ensures ∙ ap (seen (View-3 c)) c.corner-in-loop-j.ensures

-- whether the point is on the side
touched : (c : goal.Then-touches) {b : Bool} → c.touches.result ≡ b
    → On (View-3 c) (Q c) (D-3 c) (A c) (B-3 c) ≡ b
unfolding touches
touched c e =
    let d = D-3 c in
    let box = between c.loop-j.a c.seen-b.result (Q c) d in
    (λ i. touches (Q c) d (sym c.loop-j.invariant.a_is i) (sym (b_is-3 c) i))
    ∙ ap (λ (z : ℤ). is_zero z && box) (sym (turn_is c))
    ∙ sym c.touches.ensures
    ∙ e

-- the answer, from what the pass found
found : (c : goal.Then-touches) {on odd : Bool}
    → any_true (sides (On (View-3 c) (Q c) (D-3 c)) (R-3 c)) ≡ on
    → odd_true (sides (Over (View-3 c) (Q c) (D-3 c)) (R-3 c)) ≡ odd
    → placed on odd ≡ lies (over c.args.p c.args.d) (R-3 c)
found c on odd =
    let v = c.axis_of-v.ensures ∙ ap axis c.requires.face.across in
    lies_is c.args.p (D-3 c) (R-3 c) v c.seen-q.ensures on odd
    ∙ ap (λ (z : ℤ). lies (over c.args.p z) (R-3 c)) (plain c.ranges.d).reading

abbrev D-4 : goal.Else-touches → ℤ
D-4 c = to_z w64 (of_z w64 c.args.d)

d-within-3 : (c : goal.Else-touches) → Within most_scale (D-4 c)
d-within-3 c = subst (λ (z : ℤ). Within most_scale z) (sym (plain c.ranges.d).reading) c.requires.d_in

abbrev View-4 : goal.Else-touches → Axis
View-4 c = c.axis_of-v.result

a_small-3 : (c : goal.Else-touches) → FlatWithin farthest c.loop-j.a
a_small-3 c = flat_eq c.loop-j.invariant.a_is (seen_small (View-4 c) (corner_small c.requires.face.row _))

abbrev D-5 : goal.After-under → ℤ
D-5 c = to_z w64 (of_z w64 c.args.d)

d-within-4 : (c : goal.After-under) → Within most_scale (D-5 c)
d-within-4 c = subst (λ (z : ℤ). Within most_scale z) (sym (plain c.ranges.d).reading) c.requires.d_in

abbrev View-5 : goal.After-under → Axis
View-5 c = c.axis_of-v.result

abbrev R-4 : goal.After-under → Polygon
R-4 c = ring c.args.xyz.now c.args.table.now c.args.r

abbrev B-4 : goal.After-under → Point
B-4 c = corner_of (R-4 c) (c.loop-j.j + 1)

b_is-4 : (c : goal.After-under) → c.seen-b.result ≡ seen (View-5 c) (B-4 c)
b_is-4 c = c.seen-b.ensures ∙ ap (seen (View-5 c)) c.corner-in-loop-j.ensures

b-small-3 : (c : goal.After-under) → FlatWithin farthest c.seen-b.result
b-small-3 c = flat_eq (b_is-4 c) (seen_small (View-5 c) (corner_small c.requires.face.row _))

abbrev View-6 : goal.After-meets_ray-odd → Axis
View-6 c = c.axis_of-v.result

abbrev D-6 : goal.After-meets_ray-odd → ℤ
D-6 c = to_z w64 (of_z w64 c.args.d)

abbrev Q-2 : goal.After-meets_ray-odd → Flat
Q-2 c = c.seen-q.result

abbrev R-5 : goal.After-meets_ray-odd → Polygon
R-5 c = ring c.args.xyz.now c.args.table.now c.args.r

abbrev A-2 : goal.After-meets_ray-odd → Point
A-2 c = corner_of (R-5 c) c.loop-j.j

abbrev B-5 : goal.After-meets_ray-odd → Point
B-5 c = corner_of (R-5 c) (c.loop-j.j + 1)

turn_is-2 : (c : goal.After-meets_ray-odd)
    → to_z w64 (of_z w64 c.turn-t.result) ≡ turn c.loop-j.a c.seen-b.result (Q-2 c) (D-6 c)
turn_is-2 c = reads_back c.turn-t.result c.turn-t.type_inv ∙ c.turn-t.ensures

b_is-5 : (c : goal.After-meets_ray-odd) → c.seen-b.result ≡ seen (View-6 c) (B-5 c)
b_is-5 c = c.seen-b.ensures ∙ ap (seen (View-6 c)) c.corner-in-loop-j.ensures

touched-2 : (c : goal.After-meets_ray-odd) {b : Bool} → c.touches.result ≡ b
    → On (View-6 c) (Q-2 c) (D-6 c) (A-2 c) (B-5 c) ≡ b
unfolding touches
touched-2 c e =
    let d = D-6 c in
    let box = between c.loop-j.a c.seen-b.result (Q-2 c) d in
    (λ i. touches (Q-2 c) d (sym c.loop-j.invariant.a_is i) (sym (b_is-5 c) i))
    ∙ ap (λ (z : ℤ). is_zero z && box) (sym (turn_is-2 c))
    ∙ sym c.touches.ensures
    ∙ e

-- whether the side is over the point
crossed : (c : goal.After-meets_ray-odd)
    → c.meets_ray-odd.result ≡ Over (View-6 c) (Q-2 c) (D-6 c) (A-2 c) (B-5 c)
unfolding crosses
crossed c =
    c.meets_ray-odd.ensures
    ∙ (λ i. meets_ray (c.under.ensures i) (c.under-in-loop-j.ensures i) (turn_is-2 c i))
    ∙ (λ i. crosses (Q-2 c) (D-6 c) (c.loop-j.invariant.a_is i) (b_is-5 c i))

abbrev View-7 : goal.After-placed → Axis
View-7 c = c.axis_of-v.result

abbrev R-6 : goal.After-placed → Polygon
R-6 c = ring c.args.xyz.now c.args.table.now c.args.r

abbrev D-7 : goal.After-placed → ℤ
D-7 c = to_z w64 (of_z w64 c.args.d)

abbrev Q-3 : goal.After-placed → Flat
Q-3 c = c.seen-q.result

found-2 : (c : goal.After-placed) {on odd : Bool}
    → any_true (sides (On (View-7 c) (Q-3 c) (D-7 c)) (R-6 c)) ≡ on
    → odd_true (sides (Over (View-7 c) (Q-3 c) (D-7 c)) (R-6 c)) ≡ odd
    → placed on odd ≡ lies (over c.args.p c.args.d) (R-6 c)
found-2 c on odd =
    let v = c.axis_of-v.ensures ∙ ap axis c.requires.face.across in
    lies_is c.args.p (D-7 c) (R-6 c) v c.seen-q.ensures on odd
    ∙ ap (λ (z : ℤ). lies (over c.args.p z) (R-6 c)) (plain c.ranges.d).reading

-- ---- the needs

pub count-n-requires : goal.count-n-requires
count-n-requires c = c.requires.face.row.room

pub corner-requires : goal.corner-requires
corner-requires c = corner_in c.requires.face.row _ (omega arith)

pub loop-j-init : goal.loop-j-init
unfolding odd_true
loop-j-init c =
    let row = c.requires.face.row in
    record {
      not_past = omega arith;
      whole = c.count-n.ensures ∙ sym (ring_length row);
      off = refl;
      odd_is = refl;
      a_is = c.seen-a.ensures ∙ ap (seen c.axis_of-v.result) c.corner.ensures;
    }

pub corner-requires-in-loop-j : goal.corner-requires-in-loop-j
corner-requires-in-loop-j c = corner_in c.requires.face.row _ (omega arith)

pub turn-t-requires : goal.turn-t-requires
turn-t-requires c =
    record {
      side = record { a_in = a_small c; b_in = b-small c; d_in = d-within c };
      p_in = flat_eq c.seen-q.ensures (seen_small (View c) c.requires.p_in);
    }

pub touches-requires : goal.touches-requires
touches-requires c =
    record { a_in = a_small-2 c; b_in = b-small-2 c; d_in = d-within-2 c }

pub returns-then-touches : goal.returns-then-touches
unfolding placed
returns-then-touches c =
    let side = On (View-3 c) (Q c) (D-3 c) in
    let on = touched c c.if-touches.true in
    found c (side_hit any_true-search side (R-3 c) c.loop-j.j false origin (omega arith) c.loop-j.invariant.off on) refl

pub under-requires : goal.under-requires
under-requires c =
    record { a_in = a_small-3 c; d_in = d-within-3 c }

pub under-requires-in-loop-j : goal.under-requires-in-loop-j
under-requires-in-loop-j c =
    record { a_in = b-small-3 c; d_in = d-within-4 c }

pub loop-j-preserved : goal.loop-j-preserved
unfolding xor
loop-j-preserved c =
    let g = R-5 c in
    let d = D-6 c in
    let k = c.loop-j.invariant in
    let h : c.loop-j.j < length g = omega arith in
    let past = touched-2 c c.if-touches.false in
    record {
      not_past = omega arith;
      whole = k.whole;
      off = side_miss any_true-search (On (View-6 c) (Q-2 c) d) g c.loop-j.j false origin h k.off past;
      odd_is = (λ i. xor (k.odd_is i) (crossed c i)) ∙ sym (odd_more (Over (View-6 c) (Q-2 c) d) g c.loop-j.j origin h);
      a_is = b_is-5 c;
    }

pub returns : goal.returns
returns c =
    let g = R-6 c in
    let d = D-7 c in
    let k = c.loop-j.invariant in
    let on = side_end any_true-search (On (View-7 c) (Q-3 c) d) g c.loop-j.j (omega arith) k.off in
    let odd = ap odd_true (sym (sides_all (Over (View-7 c) (Q-3 c) d) g c.loop-j.j (omega arith))) ∙ sym k.odd_is in
    c.placed.ensures ∙ found-2 c on odd

-- `loop_cover::is_outside`: the ends of the edge are read, and `lies` answers of their sum over 2.
use mathlib.Core.Path.{◌≡◌, ap, sym, ◌∙◌}
use Prim.Native.Nat.{◌+◌, ◌*◌}
use native.Mathlib.Omega.{arith}
use lib.IntN.{pos}
use lib.ListN.{get_or}
use Rattle.exact.proofs.Size.{within_lit}
use Rattle.paper.specs.Numbers.{farthest}
use Rattle.paper.specs.Points.{plus}
use Rattle.paper.specs.Polygon.{is_outside, lies, over}
use Rattle.paper.specs.declared.Point.{Point}
use Rattle.polygon.specs.Rings.{point_of, ring}
use Rattle.polygon.specs.Sizes.{PointWithin}
use Rattle.polygon.proofs.Rows.{point_small}
use Rattle.polygon.proofs.Sizes.{plus_small, small_eq, small_up}
use Rattle.loop_cover.specs.Midpoints.{outside_of}
use Rattle.loop_cover.proofs.Middles.{ends_in_lem, first-known, second-known, outside_is}
use Rattle.loop_cover.proofs.is_outside.Goals as goal

-- ---- the ends of the edge

a_is : (c : goal.After-point_at-b) → let a = c.args in c.point_at-a.result ≡ point_of a.xyz.now (get_or a.ends.now (2 * a.e) 0)
a_is c = let a = c.args in c.point_at-a.ensures ∙ ap (point_of a.xyz.now) c.wide.ensures

a_small : (c : goal.After-point_at-b) → PointWithin farthest c.point_at-a.result
a_small c = small_eq (a_is c) (point_small _ c.requires.range.points.near _)

b_is : (c : goal.After-point_at-b)
    → let a = c.args in c.point_at-b.result ≡ point_of a.xyz.now (get_or a.ends.now (2 * a.e + 1) 0)
b_is c = let a = c.args in c.point_at-b.ensures ∙ ap (point_of a.xyz.now) c.wide-2.ensures

b-small : (c : goal.After-point_at-b) → PointWithin farthest c.point_at-b.result
b-small c = small_eq (b_is c) (point_small _ c.requires.range.points.near _)

a_is-2 : (c : goal.After-plus) → let a = c.args in c.point_at-a.result ≡ point_of a.xyz.now (get_or a.ends.now (2 * a.e) 0)
a_is-2 c = let a = c.args in c.point_at-a.ensures ∙ ap (point_of a.xyz.now) c.wide.ensures

a_small-2 : (c : goal.After-plus) → PointWithin farthest c.point_at-a.result
a_small-2 c = small_eq (a_is-2 c) (point_small _ c.requires.range.points.near _)

b_is-2 : (c : goal.After-plus)
    → let a = c.args in c.point_at-b.result ≡ point_of a.xyz.now (get_or a.ends.now (2 * a.e + 1) 0)
b_is-2 c = let a = c.args in c.point_at-b.ensures ∙ ap (point_of a.xyz.now) c.wide-2.ensures

b-small-2 : (c : goal.After-plus) → PointWithin farthest c.point_at-b.result
b-small-2 c = small_eq (b_is-2 c) (point_small _ c.requires.range.points.near _)

a_is-3 : (c : goal.In-Outside) → let a = c.args in c.point_at-a.result ≡ point_of a.xyz.now (get_or a.ends.now (2 * a.e) 0)
a_is-3 c = let a = c.args in c.point_at-a.ensures ∙ ap (point_of a.xyz.now) c.wide.ensures

b_is-3 : (c : goal.In-Outside)
    → let a = c.args in c.point_at-b.result ≡ point_of a.xyz.now (get_or a.ends.now (2 * a.e + 1) 0)
b_is-3 c = let a = c.args in c.point_at-b.ensures ∙ ap (point_of a.xyz.now) c.wide-2.ensures

-- where their sum lies
answer : (c : goal.In-Outside) → let a = c.args in
    is_outside c.lies-w.result ≡ outside_of a.xyz.now a.ends.now a.table.now a.k a.e
answer c =
    let g = ring c.args.xyz.now c.args.table.now c.args.k in
    let sum = c.plus.ensures ∙ (λ i. plus (a_is-3 c i) (b_is-3 c i)) in
    outside_is c.requires c.lies-w.result (c.lies-w.ensures ∙ ap (λ (q : Point). lies (over q (pos 2)) g) sum)

a_is-4 : (c : goal.In-Border) → let a = c.args in c.point_at-a.result ≡ point_of a.xyz.now (get_or a.ends.now (2 * a.e) 0)
a_is-4 c = let a = c.args in c.point_at-a.ensures ∙ ap (point_of a.xyz.now) c.wide.ensures

b_is-4 : (c : goal.In-Border)
    → let a = c.args in c.point_at-b.result ≡ point_of a.xyz.now (get_or a.ends.now (2 * a.e + 1) 0)
b_is-4 c = let a = c.args in c.point_at-b.ensures ∙ ap (point_of a.xyz.now) c.wide-2.ensures

answer-2 : (c : goal.In-Border) → let a = c.args in
    is_outside c.lies-w.result ≡ outside_of a.xyz.now a.ends.now a.table.now a.k a.e
answer-2 c =
    let g = ring c.args.xyz.now c.args.table.now c.args.k in
    let sum = c.plus.ensures ∙ (λ i. plus (a_is-4 c i) (b_is-4 c i)) in
    outside_is c.requires c.lies-w.result (c.lies-w.ensures ∙ ap (λ (q : Point). lies (over q (pos 2)) g) sum)

a_is-5 : (c : goal.In-Inside) → let a = c.args in c.point_at-a.result ≡ point_of a.xyz.now (get_or a.ends.now (2 * a.e) 0)
a_is-5 c = let a = c.args in c.point_at-a.ensures ∙ ap (point_of a.xyz.now) c.wide.ensures

b_is-5 : (c : goal.In-Inside)
    → let a = c.args in c.point_at-b.result ≡ point_of a.xyz.now (get_or a.ends.now (2 * a.e + 1) 0)
b_is-5 c = let a = c.args in c.point_at-b.ensures ∙ ap (point_of a.xyz.now) c.wide-2.ensures

answer-3 : (c : goal.In-Inside) → let a = c.args in
    is_outside c.lies-w.result ≡ outside_of a.xyz.now a.ends.now a.table.now a.k a.e
answer-3 c =
    let g = ring c.args.xyz.now c.args.table.now c.args.k in
    let sum = c.plus.ensures ∙ (λ i. plus (a_is-5 c i) (b_is-5 c i)) in
    outside_is c.requires c.lies-w.result (c.lies-w.ensures ∙ ap (λ (q : Point). lies (over q (pos 2)) g) sum)

-- ---- the needs

pub overflow_mul-e : goal.overflow_mul-e
overflow_mul-e c = omega (arith, ends_in_lem c.requires)

pub bounds-ends-e : goal.bounds-ends-e
bounds-ends-e c = omega (arith, ends_in_lem c.requires)

pub point_at-a-requires : goal.point_at-a-requires
point_at-a-requires c = omega (arith, c.wide.ensures, first-known c.requires)

pub overflow_mul-e-2 : goal.overflow_mul-e-2
overflow_mul-e-2 c = omega (arith, ends_in_lem c.requires)

pub overflow_add-e : goal.overflow_add-e
overflow_add-e c = omega (arith, ends_in_lem c.requires)

pub bounds-ends-e-2 : goal.bounds-ends-e-2
bounds-ends-e-2 c = ends_in_lem c.requires

pub point_at-b-requires : goal.point_at-b-requires
point_at-b-requires c = omega (arith, c.wide-2.ensures, second-known c.requires)

pub plus-requires : goal.plus-requires
plus-requires c = record { a_in = small_up tt (a_small c); b_in = small_up tt (b-small c) }

pub lies-w-requires : goal.lies-w-requires
lies-w-requires c =
    record {
      face = c.requires.face;
      p_in = small_eq c.plus.ensures (small_up tt (plus_small (a_small-2 c) (b-small-2 c)));
      d_in = within_lit tt;
    }

pub returns-in-Outside : goal.returns-in-Outside
unfolding is_outside
returns-in-Outside c = sym (ap is_outside c.in-Outside.is) ∙ answer c

pub returns-in-Border : goal.returns-in-Border
unfolding is_outside
returns-in-Border c = sym (ap is_outside c.in-Border.is) ∙ answer-2 c

pub returns-in-Inside : goal.returns-in-Inside
unfolding is_outside
returns-in-Inside c = sym (ap is_outside c.in-Inside.is) ∙ answer-3 c

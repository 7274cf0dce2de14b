-- `loop_search::planes::turned`: the cross product of the path's first step and of that to w says which way it is.
use mathlib.Core.Bool.{Bool, false}
use mathlib.Core.List.{List, map}
use mathlib.Core.Path.{◌≡◌, sym, ap, subst, ◌∙◌}
use Prim.Native.Nat.{ℕ}
use lib.ListN.{get_or}
use Rattle.lists.specs.Lists.{upto}
use Rattle.sets.specs.Sets.{Is}
use Rattle.paper.specs.Numbers.{farthest}
use Rattle.paper.specs.Points.{minus, cross, is_origin}
use Rattle.polygon.specs.Sizes.{PointWithin, most_step}
use Rattle.polygon.specs.Rings.{point_of}
use Rattle.polygon.proofs.Sizes.{small_eq, small_up, minus_small, cross_small}
use Rattle.polygon.proofs.Rows.{point_small}
use Rattle.fast_search.specs.Rows.{some_of}
use Rattle.loop_search.specs.Lines.{level_in, turn_in, PlaneIn}
use Rattle.loop_search.proofs.planes.turned.Goals as goal

second-small : (c : goal.After-point_at) → PointWithin farthest c.point_at.result
second-small c =
    small_eq c.point_at.ensures (point_small c.args.xyz.now c.requires.points.near c.wide-2.result)

s-small : (c : goal.After-point_at) → PointWithin farthest c.point_at-s.result
s-small c = small_eq c.point_at-s.ensures (point_small c.args.xyz.now c.requires.points.near c.wide.result)

next_small : (c : goal.After-point_at-2) → PointWithin farthest c.point_at-2.result
next_small c =
    small_eq c.point_at-2.ensures (point_small c.args.xyz.now c.requires.points.near c.args.w)

s-small-2 : (c : goal.After-point_at-2) → PointWithin farthest c.point_at-s.result
s-small-2 c = small_eq c.point_at-s.ensures (point_small c.args.xyz.now c.requires.points.near c.wide.result)

next_small-2 : (c : goal.After-minus) → PointWithin farthest c.point_at-2.result
next_small-2 c =
    small_eq c.point_at-2.ensures (point_small c.args.xyz.now c.requires.points.near c.args.w)

s-small-3 : (c : goal.After-minus) → PointWithin farthest c.point_at-s.result
s-small-3 c = small_eq c.point_at-s.ensures (point_small c.args.xyz.now c.requires.points.near c.wide.result)

to-next-small : (c : goal.After-minus) → PointWithin most_step c.minus.result
to-next-small c = small_eq c.minus.ensures (minus_small (next_small-2 c) (s-small-3 c))

second-small-2 : (c : goal.After-minus) → PointWithin farthest c.point_at.result
second-small-2 c =
    small_eq c.point_at.ensures (point_small c.args.xyz.now c.requires.points.near c.wide-2.result)

way-small : (c : goal.After-minus) → PointWithin most_step c.minus-way.result
way-small c = small_eq c.minus-way.ensures (minus_small (second-small-2 c) (s-small-3 c))

-- ---- the points and steps that the code made

s-is : (c : goal.Then-is_origin) → c.point_at-s.result ≡ point_of c.args.xyz.now (get_or c.args.path.now 0 0)
s-is c = c.point_at-s.ensures ∙ ap (point_of c.args.xyz.now) c.wide.ensures

m-is : (c : goal.Then-is_origin)
    → c.cross-m.result ≡ turn_in c.args.xyz.now c.args.path.now c.args.w
m-is c =
    let a = c.args in
    let b : c.point_at.result ≡ point_of a.xyz.now (get_or a.path.now 1 0)
    = c.point_at.ensures ∙ ap (point_of a.xyz.now) c.wide-2.ensures in
    c.cross-m.ensures
    ∙ (λ i. cross (c.minus-way.ensures i) (c.minus.ensures i))
    ∙ (λ i. cross (minus (b i) (s-is c i)) (minus (c.point_at-2.ensures i) (s-is c i)))

next_small-3 : (c : goal.Else-is_origin) → PointWithin farthest c.point_at-2.result
next_small-3 c =
    small_eq c.point_at-2.ensures (point_small c.args.xyz.now c.requires.points.near c.args.w)

s-small-4 : (c : goal.Else-is_origin) → PointWithin farthest c.point_at-s.result
s-small-4 c = small_eq c.point_at-s.ensures (point_small c.args.xyz.now c.requires.points.near c.wide.result)

to-next-small-2 : (c : goal.Else-is_origin) → PointWithin most_step c.minus.result
to-next-small-2 c = small_eq c.minus.ensures (minus_small (next_small-3 c) (s-small-4 c))

second-small-3 : (c : goal.Else-is_origin) → PointWithin farthest c.point_at.result
second-small-3 c =
    small_eq c.point_at.ensures (point_small c.args.xyz.now c.requires.points.near c.wide-2.result)

way-small-2 : (c : goal.Else-is_origin) → PointWithin most_step c.minus-way.result
way-small-2 c = small_eq c.minus-way.ensures (minus_small (second-small-3 c) (s-small-4 c))

plane-in : (c : goal.Else-is_origin)
    → PlaneIn c.args.xyz.now c.args.v c.point_at-s.result c.cross-m.result
plane-in c =
    record {
      points = c.requires.points;
      few = c.requires.few;
      s_in = s-small-4 c;
      m_in = small_eq c.cross-m.ensures (small_up tt (cross_small (way-small-2 c) (to-next-small-2 c)));
    }

next_small-4 : (c : goal.Then-any_level) → PointWithin farthest c.point_at-2.result
next_small-4 c =
    small_eq c.point_at-2.ensures (point_small c.args.xyz.now c.requires.points.near c.args.w)

s-small-5 : (c : goal.Then-any_level) → PointWithin farthest c.point_at-s.result
s-small-5 c = small_eq c.point_at-s.ensures (point_small c.args.xyz.now c.requires.points.near c.wide.result)

to-next-small-3 : (c : goal.Then-any_level) → PointWithin most_step c.minus.result
to-next-small-3 c = small_eq c.minus.ensures (minus_small (next_small-4 c) (s-small-5 c))

second-small-4 : (c : goal.Then-any_level) → PointWithin farthest c.point_at.result
second-small-4 c =
    small_eq c.point_at.ensures (point_small c.args.xyz.now c.requires.points.near c.wide-2.result)

way-small-3 : (c : goal.Then-any_level) → PointWithin most_step c.minus-way.result
way-small-3 c = small_eq c.minus-way.ensures (minus_small (second-small-4 c) (s-small-5 c))

plane-in-2 : (c : goal.Then-any_level)
    → PlaneIn c.args.xyz.now c.args.v c.point_at-s.result c.cross-m.result
plane-in-2 c =
    record {
      points = c.requires.points;
      few = c.requires.few;
      s_in = s-small-5 c;
      m_in = small_eq c.cross-m.ensures (small_up tt (cross_small (way-small-3 c) (to-next-small-3 c)));
    }

-- a test of the plane that the code holds is one of the plane that is meant
abbrev meant : (A : Type 0) (test : (ℕ → Bool) → A) (c : goal.After-plane_of) → Type 0
meant A test c =
    let a = c.args in
    let xyz = a.xyz.now in
    test (level_in xyz c.point_at-s.result c.cross-m.result)
    ≡ test (level_in xyz (point_of xyz (get_or a.path.now 0 0)) (turn_in xyz a.path.now a.w))

s-is-2 : (c : goal.After-plane_of) → c.point_at-s.result ≡ point_of c.args.xyz.now (get_or c.args.path.now 0 0)
s-is-2 c = c.point_at-s.ensures ∙ ap (point_of c.args.xyz.now) c.wide.ensures

m-is-2 : (c : goal.After-plane_of)
    → c.cross-m.result ≡ turn_in c.args.xyz.now c.args.path.now c.args.w
m-is-2 c =
    let a = c.args in
    let b : c.point_at.result ≡ point_of a.xyz.now (get_or a.path.now 1 0)
    = c.point_at.ensures ∙ ap (point_of a.xyz.now) c.wide-2.ensures in
    c.cross-m.ensures
    ∙ (λ i. cross (c.minus-way.ensures i) (c.minus.ensures i))
    ∙ (λ i. cross (minus (b i) (s-is-2 c i)) (minus (c.point_at-2.ensures i) (s-is-2 c i)))

same-plane : (A : Type 0) (test : (ℕ → Bool) → A) (c : goal.After-plane_of) → meant A test c
same-plane A test c =
    λ i. test (level_in c.args.xyz.now (s-is-2 c i) (m-is-2 c i))

-- ---- the answers: off the line; some vertex of `ends` is in the plane, or none

off-line : (c : goal.After-plane_of)
    → is_origin (turn_in c.args.xyz.now c.args.path.now c.args.w) ≡ false
off-line c = ap is_origin (sym (m-is-2 c)) ∙ sym c.is_origin.ensures ∙ c.if-is_origin.false

abbrev meant-2 : (A : Type 0) (test : (ℕ → Bool) → A) (c : goal.Else-any_level) → Type 0
meant-2 A test c =
    let a = c.args in
    let xyz = a.xyz.now in
    test (level_in xyz c.point_at-s.result c.cross-m.result)
    ≡ test (level_in xyz (point_of xyz (get_or a.path.now 0 0)) (turn_in xyz a.path.now a.w))

s-is-3 : (c : goal.Else-any_level) → c.point_at-s.result ≡ point_of c.args.xyz.now (get_or c.args.path.now 0 0)
s-is-3 c = c.point_at-s.ensures ∙ ap (point_of c.args.xyz.now) c.wide.ensures

m-is-3 : (c : goal.Else-any_level)
    → c.cross-m.result ≡ turn_in c.args.xyz.now c.args.path.now c.args.w
m-is-3 c =
    let a = c.args in
    let b : c.point_at.result ≡ point_of a.xyz.now (get_or a.path.now 1 0)
    = c.point_at.ensures ∙ ap (point_of a.xyz.now) c.wide-2.ensures in
    c.cross-m.ensures
    ∙ (λ i. cross (c.minus-way.ensures i) (c.minus.ensures i))
    ∙ (λ i. cross (minus (b i) (s-is-3 c i)) (minus (c.point_at-2.ensures i) (s-is-3 c i)))

same-plane-2 : (A : Type 0) (test : (ℕ → Bool) → A) (c : goal.Else-any_level) → meant-2 A test c
same-plane-2 A test c =
    λ i. test (level_in c.args.xyz.now (s-is-3 c i) (m-is-3 c i))

off-line-2 : (c : goal.Else-any_level)
    → is_origin (turn_in c.args.xyz.now c.args.path.now c.args.w) ≡ false
off-line-2 c = ap is_origin (sym (m-is-3 c)) ∙ sym c.is_origin.ensures ∙ c.if-is_origin.false

-- ---- the needs

pub minus-way-requires : goal.minus-way-requires
minus-way-requires c = record { a_in = second-small c; b_in = s-small c }

pub minus-requires : goal.minus-requires
minus-requires c = record { a_in = next_small c; b_in = s-small-2 c }

pub cross-m-requires : goal.cross-m-requires
cross-m-requires c = record { a_in = way-small c; b_in = to-next-small c }

pub returns-then-is_origin : goal.returns-then-is_origin
returns-then-is_origin c a i = ap is_origin (sym (m-is c)) ∙ sym c.is_origin.ensures ∙ c.if-is_origin.true

pub any_level-requires : goal.any_level-requires
any_level-requires c =
    record { vertices = c.args.v; plane = plane-in c; below = c.requires.ends_below }

pub plane_of-requires : goal.plane_of-requires
plane_of-requires c = plane-in-2 c

pub returns-then-any_level : goal.returns-then-any_level
returns-then-any_level c a i =
    let v = c.args.v in (
      off-line c,
      sym (same-plane Bool (λ t. some_of t 0 a) c) ∙ sym (c.any_level.ensures a i) ∙ c.if-any_level.true,
      subst (Is c.plane_of.result) (same-plane (List Bool) (λ t. map t (upto v)) c) c.plane_of.ensures,
    )

pub returns : goal.returns
returns c a i = (
  off-line-2 c,
  sym (same-plane-2 Bool (λ t. some_of t 0 a) c) ∙ sym (c.any_level.ensures a i) ∙ c.if-any_level.false,
)

-- `clash_fold::bends`: the code asks the four parts of the definition one by one.
use mathlib.Core.Bool.{◌&&◌, not, true, false}
use mathlib.Core.Path.{◌∙◌, sym, ◌≡◌}
use Rattle.paper.specs.Clash.{bends, points_in, is_corner}
use Rattle.paper.specs.Points.{same_point}
use Rattle.paper.specs.Polygon.{Polygon}
use Rattle.polygon.specs.Rings.{ring}
use Rattle.clash_fold.proofs.bends.Goals as goal

-- ---- the two rows, and what each test that is passed says of them

abbrev F : goal.Then-not-is_corner → Polygon
F c = ring c.args.xyz.now c.args.table.now c.args.f

abbrev G : goal.Then-not-is_corner → Polygon
G c = ring c.args.xyz.now c.args.table.now c.args.g

abbrev G-2 : goal.Then-same_point → Polygon
G-2 c = ring c.args.xyz.now c.args.table.now c.args.g

corner_yes : (c : goal.Then-same_point) → is_corner (G-2 c) c.args.v ≡ true
corner_yes c = sym c.is_corner.ensures ∙ c.if-not-is_corner.false

abbrev F-2 : goal.Then-same_point → Polygon
F-2 c = ring c.args.xyz.now c.args.table.now c.args.f

abbrev G-3 : goal.Then-not-points_in → Polygon
G-3 c = ring c.args.xyz.now c.args.table.now c.args.g

corner_yes-2 : (c : goal.Then-not-points_in) → is_corner (G-3 c) c.args.v ≡ true
corner_yes-2 c = sym c.is_corner.ensures ∙ c.if-not-is_corner.false

same-no : (c : goal.Then-not-points_in) → let a = c.args in same_point a.u a.v ≡ false
same-no c = sym c.same_point.ensures ∙ c.if-same_point.false

abbrev G-4 : goal.After-points_in-2 → Polygon
G-4 c = ring c.args.xyz.now c.args.table.now c.args.g

corner_yes-3 : (c : goal.After-points_in-2) → is_corner (G-4 c) c.args.v ≡ true
corner_yes-3 c = sym c.is_corner.ensures ∙ c.if-not-is_corner.false

same-no-2 : (c : goal.After-points_in-2) → let a = c.args in same_point a.u a.v ≡ false
same-no-2 c = sym c.same_point.ensures ∙ c.if-same_point.false

abbrev F-3 : goal.After-points_in-2 → Polygon
F-3 c = ring c.args.xyz.now c.args.table.now c.args.f

in-yes : (c : goal.After-points_in-2)
    → points_in (F-3 c) c.args.u c.args.v ≡ true
in-yes c = sym c.points_in.ensures ∙ c.if-not-points_in.false

-- ---- the needs

pub returns-then-not-is_corner : goal.returns-then-not-is_corner
unfolding bends
returns-then-not-is_corner c =
    let u = c.args.u in
    let v = c.args.v in
    let no = sym c.is_corner.ensures ∙ c.if-not-is_corner.true in
    λ i. ((sym no i && not (same_point u v)) && points_in (F c) u v) && points_in (G c) u v

pub returns-then-same_point : goal.returns-then-same_point
unfolding bends
returns-then-same_point c =
    let u = c.args.u in
    let v = c.args.v in
    let same = sym c.same_point.ensures ∙ c.if-same_point.true in
    λ i. ((sym (corner_yes c) i && not (sym same i)) && points_in (F-2 c) u v) && points_in (G-2 c) u v

pub returns-then-not-points_in : goal.returns-then-not-points_in
unfolding bends
returns-then-not-points_in c =
    let no = sym c.points_in.ensures ∙ c.if-not-points_in.true in
    λ i. ((sym (corner_yes-2 c) i && not (sym (same-no c) i)) && sym no i) && points_in (G-3 c) c.args.u c.args.v

pub returns : goal.returns
unfolding bends
returns c =
    let last = points_in (G-4 c) c.args.u c.args.v in
    c.points_in-2.ensures ∙ (λ i. ((sym (corner_yes-3 c) i && not (sym (same-no-2 c) i)) && sym (in-yes c) i) && last)

-- `clash_fold::is_corner`: the loop keeps that what is left of the row decides, since no corner before is the point.
use mathlib.Core.Bool.{Bool}
use mathlib.Core.Path.{◌∙◌, ◌≡◌, ap, refl, sym}
use native.Mathlib.Omega.{arith}
use Rattle.lists.proofs.Search.{any-search, search-end}
use Rattle.lists.proofs.Sides.{ring_hit, ring_miss}
use Rattle.paper.specs.Clash.{is_corner}
use Rattle.paper.specs.Points.{origin, same_point}
use Rattle.paper.specs.Polygon.{Polygon}
use Rattle.polygon.specs.Rings.{corner_of, ring}
use Rattle.polygon.proofs.Rows.{ring_length, corner_in, corner-near}
use Rattle.clash_fold.proofs.is_corner.Goals as goal

abbrev R : goal.Then-same_point → Polygon
R c = ring c.args.xyz.now c.args.table.now c.args.r

-- the code's test of corner j
here : (c : goal.Then-same_point) {b : Bool} → c.same_point.result ≡ b
    → same_point c.args.p (corner_of (R c) c.loop-j.j) ≡ b
here c e = ap (same_point c.args.p) (sym c.corner.ensures) ∙ sym c.same_point.ensures ∙ e

abbrev R-2 : goal.Else-same_point → Polygon
R-2 c = ring c.args.xyz.now c.args.table.now c.args.r

here-2 : (c : goal.Else-same_point) {b : Bool} → c.same_point.result ≡ b
    → same_point c.args.p (corner_of (R-2 c) c.loop-j.j) ≡ b
here-2 c e = ap (same_point c.args.p) (sym c.corner.ensures) ∙ sym c.same_point.ensures ∙ e

abbrev R-3 : goal.After-loop-j → Polygon
R-3 c = ring c.args.xyz.now c.args.table.now c.args.r

-- ---- the needs

pub loop-j-init : goal.loop-j-init
loop-j-init c = (omega arith, c.count-n.ensures ∙ sym (ring_length c.requires.row), refl)

pub corner-requires : goal.corner-requires
corner-requires c = corner_in c.requires.row _ (omega arith)

pub same_point-requires : goal.same_point-requires
same_point-requires c =
    let s = c.requires in
    record { a_in = s.p_in; b_in = corner-near s.row _ c.corner.ensures }

pub returns-then-same_point : goal.returns-then-same_point
unfolding is_corner
returns-then-same_point c =
    let same = here c c.if-same_point.true in
    sym (ring_hit (any-search (same_point c.args.p)) (R c) c.loop-j.j origin (omega arith) c.loop-j.invariant.2 same)

pub loop-j-preserved : goal.loop-j-preserved
loop-j-preserved c =
    let other = here-2 c c.if-same_point.false in
    let left = ring_miss (any-search (same_point c.args.p)) (R-2 c) c.loop-j.j origin (omega arith) c.loop-j.invariant.2 other in
    (omega arith, c.loop-j.invariant.1, left)

pub returns : goal.returns
unfolding is_corner
returns c =
    sym (search-end (any-search (same_point c.args.p)) (R-3 c) c.loop-j.j (omega arith) c.loop-j.invariant.2)

-- `clash_fold::folds_at`: the loop keeps that what is left of row f decides, since no corner before bends with u.
use Rattle.clash_fold.specs.Fold.{folds_at}
use mathlib.Core.Bool.{Bool, ◌&&◌}
use mathlib.Core.Path.{◌∙◌, ◌≡◌, ap, refl, sym}
use native.Mathlib.Omega.{arith}
use Rattle.lists.proofs.Search.{any-search, search-end}
use Rattle.lists.proofs.Sides.{ring_hit, ring_miss}
use Rattle.lists.specs.Lists.{any}
use Rattle.paper.specs.Clash.{bends}
use Rattle.paper.specs.Points.{origin}
use Rattle.paper.specs.Polygon.{Polygon}
use Rattle.paper.specs.declared.Point.{Point}
use Rattle.polygon.specs.Rings.{corner_of, ring}
use Rattle.polygon.proofs.Rows.{ring_length, corner_in, corner-near}
use Rattle.clash_fold.proofs.folds_at.Goals as goal

-- ---- the two rows, and the code's test of corner j

abbrev F : goal.Then-not-is_corner → Polygon
F c = ring c.args.xyz.now c.args.table.now c.args.f

abbrev G : goal.Then-not-is_corner → Polygon
G c = ring c.args.xyz.now c.args.table.now c.args.g

abbrev Bend : goal.Then-not-is_corner → Point → Bool
Bend c = bends (F c) (G c) c.args.u

abbrev F-2 : goal.Then-bends → Polygon
F-2 c = ring c.args.xyz.now c.args.table.now c.args.f

abbrev G-2 : goal.Then-bends → Polygon
G-2 c = ring c.args.xyz.now c.args.table.now c.args.g

abbrev Bend-2 : goal.Then-bends → Point → Bool
Bend-2 c = bends (F-2 c) (G-2 c) c.args.u

-- what is found of the corners is the answer, for a u that is one of row g
answer : (c : goal.Then-bends)
    → any (Bend-2 c) (F-2 c) ≡ folds_at (F-2 c) (G-2 c) c.args.u
answer c =
    let k = c.is_corner in
    ap (λ (b : Bool). b && any (Bend-2 c) (F-2 c)) (sym (c.if-not-is_corner.false) ∙ k.ensures)

here : (c : goal.Then-bends) {b : Bool} → c.bends.result ≡ b
    → Bend-2 c (corner_of (F-2 c) c.loop-j.j) ≡ b
here c e = ap (Bend-2 c) (sym c.corner.ensures) ∙ sym c.bends.ensures ∙ e

abbrev F-3 : goal.Else-bends → Polygon
F-3 c = ring c.args.xyz.now c.args.table.now c.args.f

abbrev G-3 : goal.Else-bends → Polygon
G-3 c = ring c.args.xyz.now c.args.table.now c.args.g

abbrev Bend-3 : goal.Else-bends → Point → Bool
Bend-3 c = bends (F-3 c) (G-3 c) c.args.u

here-2 : (c : goal.Else-bends) {b : Bool} → c.bends.result ≡ b
    → Bend-3 c (corner_of (F-3 c) c.loop-j.j) ≡ b
here-2 c e = ap (Bend-3 c) (sym c.corner.ensures) ∙ sym c.bends.ensures ∙ e

abbrev F-4 : goal.After-loop-j → Polygon
F-4 c = ring c.args.xyz.now c.args.table.now c.args.f

abbrev G-4 : goal.After-loop-j → Polygon
G-4 c = ring c.args.xyz.now c.args.table.now c.args.g

abbrev Bend-4 : goal.After-loop-j → Point → Bool
Bend-4 c = bends (F-4 c) (G-4 c) c.args.u

answer-2 : (c : goal.After-loop-j)
    → any (Bend-4 c) (F-4 c) ≡ folds_at (F-4 c) (G-4 c) c.args.u
answer-2 c =
    let k = c.is_corner in
    ap (λ (b : Bool). b && any (Bend-4 c) (F-4 c)) (sym (c.if-not-is_corner.false) ∙ k.ensures)

-- ---- the needs

pub is_corner-requires : goal.is_corner-requires
is_corner-requires c =
    let s = c.requires in
    record { row = s.faces.g_face.row; p_in = s.u_in }

pub returns-then-not-is_corner : goal.returns-then-not-is_corner
returns-then-not-is_corner c =
    let k = c.is_corner in
    ap (λ (b : Bool). b && any (Bend c) (F c)) (sym (c.if-not-is_corner.true) ∙ k.ensures)

pub count-n-requires : goal.count-n-requires
count-n-requires c = c.requires.faces.f_face.row.room

pub loop-j-init : goal.loop-j-init
loop-j-init c = (omega arith, c.count-n.ensures ∙ sym (ring_length c.requires.faces.f_face.row), refl)

pub corner-requires : goal.corner-requires
corner-requires c = corner_in c.requires.faces.f_face.row _ (omega arith)

pub bends-requires : goal.bends-requires
bends-requires c =
    let s = c.requires in
    record { faces = s.faces; u_in = s.u_in; v_in = corner-near s.faces.f_face.row _ c.corner.ensures }

pub returns-then-bends : goal.returns-then-bends
returns-then-bends c =
    let bent = here c c.if-bends.true in
    sym (ring_hit (any-search (Bend-2 c)) (F-2 c) c.loop-j.j origin (omega arith) c.loop-j.invariant.2 bent) ∙ answer c

pub loop-j-preserved : goal.loop-j-preserved
loop-j-preserved c =
    let straight = here-2 c c.if-bends.false in
    let left = ring_miss (any-search (Bend-3 c)) (F-3 c) c.loop-j.j origin (omega arith) c.loop-j.invariant.2 straight in
    (omega arith, c.loop-j.invariant.1, left)

pub returns : goal.returns
returns c =
    sym (search-end (any-search (Bend-4 c)) (F-4 c) c.loop-j.j (omega arith) c.loop-j.invariant.2) ∙ answer-2 c

-- `clash_fold::folds`: the loop keeps that what is left of row f decides, since the rows fold at no corner before.
use Rattle.clash_fold.specs.Fold.{folds_at}
use mathlib.Core.Bool.{Bool, ◌&&◌, not}
use mathlib.Core.Path.{◌∙◌, ◌≡◌, ap, refl, sym}
use native.Mathlib.Omega.{arith}
use Rattle.lists.proofs.Search.{any-search, search-end}
use Rattle.lists.proofs.Sides.{ring_hit, ring_miss}
use Rattle.lists.specs.Lists.{any}
use Rattle.paper.specs.Clash.{folds}
use Rattle.paper.specs.Points.{origin}
use Rattle.paper.specs.Polygon.{Polygon}
use Rattle.paper.specs.declared.Point.{Point}
use Rattle.polygon.specs.Rings.{corner_of, ring}
use Rattle.polygon.proofs.Rows.{ring_length, corner_in, corner-near}
use Rattle.clash_fold.proofs.folds.Goals as goal

-- ---- the two rows, and the code's test of corner j

abbrev F : goal.Then-in_plane → Polygon
F c = ring c.args.xyz.now c.args.table.now c.args.f

abbrev G : goal.Then-in_plane → Polygon
G c = ring c.args.xyz.now c.args.table.now c.args.g

abbrev Fold : goal.Then-in_plane → Point → Bool
Fold c = folds_at (F c) (G c)

abbrev F-2 : goal.Then-folds_at → Polygon
F-2 c = ring c.args.xyz.now c.args.table.now c.args.f

abbrev G-2 : goal.Then-folds_at → Polygon
G-2 c = ring c.args.xyz.now c.args.table.now c.args.g

abbrev Fold-2 : goal.Then-folds_at → Point → Bool
Fold-2 c = folds_at (F-2 c) (G-2 c)

-- what is found of the corners is the answer, for planes that differ
answer : (c : goal.Then-folds_at) → any (Fold-2 c) (F-2 c) ≡ folds (F-2 c) (G-2 c)
unfolding folds
answer c =
    ap (λ (b : Bool). not b && any (Fold-2 c) (F-2 c)) (sym c.if-in_plane.false ∙ c.in_plane.ensures)

here : (c : goal.Then-folds_at) {b : Bool} → c.folds_at.result ≡ b
    → Fold-2 c (corner_of (F-2 c) c.loop-j.j) ≡ b
here c e = ap (Fold-2 c) (sym c.corner.ensures) ∙ sym c.folds_at.ensures ∙ e

abbrev F-3 : goal.Else-folds_at → Polygon
F-3 c = ring c.args.xyz.now c.args.table.now c.args.f

abbrev G-3 : goal.Else-folds_at → Polygon
G-3 c = ring c.args.xyz.now c.args.table.now c.args.g

abbrev Fold-3 : goal.Else-folds_at → Point → Bool
Fold-3 c = folds_at (F-3 c) (G-3 c)

here-2 : (c : goal.Else-folds_at) {b : Bool} → c.folds_at.result ≡ b
    → Fold-3 c (corner_of (F-3 c) c.loop-j.j) ≡ b
here-2 c e = ap (Fold-3 c) (sym c.corner.ensures) ∙ sym c.folds_at.ensures ∙ e

abbrev F-4 : goal.After-loop-j → Polygon
F-4 c = ring c.args.xyz.now c.args.table.now c.args.f

abbrev G-4 : goal.After-loop-j → Polygon
G-4 c = ring c.args.xyz.now c.args.table.now c.args.g

abbrev Fold-4 : goal.After-loop-j → Point → Bool
Fold-4 c = folds_at (F-4 c) (G-4 c)

answer-2 : (c : goal.After-loop-j) → any (Fold-4 c) (F-4 c) ≡ folds (F-4 c) (G-4 c)
unfolding folds
answer-2 c =
    ap (λ (b : Bool). not b && any (Fold-4 c) (F-4 c)) (sym c.if-in_plane.false ∙ c.in_plane.ensures)

-- ---- the needs

pub in_plane-requires : goal.in_plane-requires
in_plane-requires c =
    let s = c.requires in
    record { face = s.f_face; row = s.g_face.row }

pub returns-then-in_plane : goal.returns-then-in_plane
unfolding folds
returns-then-in_plane c =
    ap (λ (b : Bool). not b && any (Fold c) (F c)) (sym c.if-in_plane.true ∙ c.in_plane.ensures)

pub count-n-requires : goal.count-n-requires
count-n-requires c = c.requires.f_face.row.room

pub loop-j-init : goal.loop-j-init
loop-j-init c = (omega arith, c.count-n.ensures ∙ sym (ring_length c.requires.f_face.row), refl)

pub corner-requires : goal.corner-requires
corner-requires c = corner_in c.requires.f_face.row _ (omega arith)

pub folds_at-requires : goal.folds_at-requires
folds_at-requires c =
    let s = c.requires in
    record { faces = s; u_in = corner-near s.f_face.row _ c.corner.ensures }

pub returns-then-folds_at : goal.returns-then-folds_at
returns-then-folds_at c =
    let folded = here c c.if-folds_at.true in
    sym (ring_hit (any-search (Fold-2 c)) (F-2 c) c.loop-j.j origin (omega arith) c.loop-j.invariant.2 folded) ∙ answer c

pub loop-j-preserved : goal.loop-j-preserved
loop-j-preserved c =
    let straight = here-2 c c.if-folds_at.false in
    let left = ring_miss (any-search (Fold-3 c)) (F-3 c) c.loop-j.j origin (omega arith) c.loop-j.invariant.2 straight in
    (omega arith, c.loop-j.invariant.1, left)

pub returns : goal.returns
returns c =
    sym (search-end (any-search (Fold-4 c)) (F-4 c) c.loop-j.j (omega arith) c.loop-j.invariant.2) ∙ answer-2 c

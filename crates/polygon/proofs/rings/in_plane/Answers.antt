-- `polygon::rings::in_plane`: the loop keeps that what is left of row h decides, since the corners before are in the plane.
use mathlib.Core.Bool.{Bool, not}
use mathlib.Core.Path.{◌∙◌, ◌≡◌, ap, refl, sym}
use native.Mathlib.Omega.{arith}
use Rattle.lists.proofs.Search.{all-search, search-end}
use Rattle.lists.proofs.Sides.{ring_hit, ring_miss}
use Rattle.paper.specs.Points.{is_zero, origin}
use Rattle.paper.specs.Polygon.{Polygon, one_plane, plane_side}
use Rattle.polygon.specs.Rings.{corner_of, ring}
use Rattle.polygon.proofs.Planes.{face-normal, side_is}
use Rattle.polygon.proofs.Rows.{ring_length, corner_in, corner-near}
use Rattle.polygon.proofs.Zeros.{reads_back}
use Rattle.polygon.proofs.rings.in_plane.Invariants.{Level}
use Rattle.polygon.proofs.rings.in_plane.Goals as goal

-- the two rows
abbrev G : goal.Then-not-is_zero → Polygon
G c = let a = c.args in ring a.xyz.now a.table.now a.g

abbrev H : goal.Then-not-is_zero → Polygon
H c = let a = c.args in ring a.xyz.now a.table.now a.h

-- the code's test of corner j
here : (c : goal.Then-not-is_zero) {b : Bool} → not c.is_zero.result ≡ b
    → not (Level (G c) (corner_of (H c) c.loop-j.j)) ≡ b
here c e =
    let q = c.corner in
    let p =
    reads_back c.plane_side-s.result c.plane_side-s.type_inv
    ∙ c.plane_side-s.ensures
    ∙ side_is c.requires.face c.corner-o.ensures q.result
    ∙ ap (plane_side (G c)) q.ensures in
    ap not (sym (c.is_zero.ensures ∙ ap is_zero p)) ∙ e

abbrev G-2 : goal.Else-not-is_zero → Polygon
G-2 c = let a = c.args in ring a.xyz.now a.table.now a.g

abbrev H-2 : goal.Else-not-is_zero → Polygon
H-2 c = let a = c.args in ring a.xyz.now a.table.now a.h

here-2 : (c : goal.Else-not-is_zero) {b : Bool} → not c.is_zero.result ≡ b
    → not (Level (G-2 c) (corner_of (H-2 c) c.loop-j.j)) ≡ b
here-2 c e =
    let q = c.corner in
    let p =
    reads_back c.plane_side-s.result c.plane_side-s.type_inv
    ∙ c.plane_side-s.ensures
    ∙ side_is c.requires.face c.corner-o.ensures q.result
    ∙ ap (plane_side (G-2 c)) q.ensures in
    ap not (sym (c.is_zero.ensures ∙ ap is_zero p)) ∙ e

abbrev G-3 : goal.After-loop-j → Polygon
G-3 c = let a = c.args in ring a.xyz.now a.table.now a.g

abbrev H-3 : goal.After-loop-j → Polygon
H-3 c = let a = c.args in ring a.xyz.now a.table.now a.h

-- ---- the needs

pub corner-o-requires : goal.corner-o-requires
corner-o-requires c = corner_in c.requires.face.row _ (omega arith)

pub loop-j-init : goal.loop-j-init
loop-j-init c = (omega arith, c.count-n.ensures ∙ sym (ring_length c.requires.row), refl)

pub corner-requires : goal.corner-requires
corner-requires c = corner_in c.requires.row _ (omega arith)

pub plane_side-s-requires : goal.plane_side-s-requires
plane_side-s-requires c =
    let s = c.requires in
    record {
      m_in = face-normal s.face;
      o_in = corner-near s.face.row _ c.corner-o.ensures;
      p_in = corner-near s.row _ c.corner.ensures;
    }

pub returns-then-not-is_zero : goal.returns-then-not-is_zero
unfolding one_plane
returns-then-not-is_zero c =
    let off = here c (ap not c.if-not-is_zero.true) in
    sym (ring_hit (all-search (Level (G c))) (H c) c.loop-j.j origin (omega arith) c.loop-j.invariant.2 off)

pub loop-j-preserved : goal.loop-j-preserved
loop-j-preserved c =
    let on = here-2 c (ap not c.if-not-is_zero.false) in
    let left = ring_miss (all-search (Level (G-2 c))) (H-2 c) c.loop-j.j origin (omega arith) c.loop-j.invariant.2 on in
    (omega arith, c.loop-j.invariant.1, left)

pub returns : goal.returns
unfolding one_plane
returns c =
    sym (search-end (all-search (Level (G-3 c))) (H-3 c) c.loop-j.j (omega arith) c.loop-j.invariant.2)

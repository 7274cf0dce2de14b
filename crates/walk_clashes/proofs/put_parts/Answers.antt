-- `walk_clashes::put_parts`: the loop keeps that the normals and the parts of the first k candidates are written.
use mathlib.Core.Path.{◌≡◌, subst, sym, ◌∙◌}
use Prim.Native.Nat.{◌<◌}
use native.Mathlib.Omega.{arith}
use Rattle.paper.specs.Numbers.{most_candidates}
use Rattle.exact.specs.Size.{Within}
use Rattle.polygon.specs.Rings.{FaceRow}
use Rattle.polygon.proofs.Planes.{face-normal}
use Rattle.walk_tables.specs.Words.{most_part}
use Rattle.walk_clashes.proofs.Rows.{row-at, face-at}
use Rattle.walk_clashes.proofs.Parts.{Parts, parts_none, parts_more, parts_all, part_small, kept}
use Rattle.walk_clashes.proofs.put_parts.Goals as goal

-- row k, with its normal
face_of_lem : (c : goal.After-put_normal-arg-1)
    → let a = c.args in FaceRow a.xyz.now a.rows.now c.loop-k.k c.normal-m.result
face_of_lem c = face-at (c.requires.faces) _ c.loop-k-test.true c.normal-m.ensures

low : (c : goal.After-put_normal-arg-1) → c.loop-k.k < most_candidates
low c = omega (arith, (c.requires.faces).most, c.loop-k-test.true)

face_of_lem-2 : (c : goal.After-put_normal)
    → let a = c.args in FaceRow a.xyz.now a.rows.now c.loop-k.k c.normal-m.result
face_of_lem-2 c = face-at (c.requires.faces) _ c.loop-k-test.true c.normal-m.ensures

low-2 : (c : goal.After-six_of) → c.loop-k.k < most_candidates
low-2 c = omega (arith, (c.requires.faces).most, c.loop-k-test.true)

face_of_lem-3 : (c : goal.After-six_of)
    → let a = c.args in FaceRow a.xyz.now a.rows.now c.loop-k.k c.normal-m.result
face_of_lem-3 c = face-at (c.requires.faces) _ c.loop-k-test.true c.normal-m.ensures

-- ---- the needs

pub loop-k-init : goal.loop-k-init
loop-k-init c w = parts_none w _ _ c.requires.normal_room c.requires.six_room

pub normal-m-requires : goal.normal-m-requires
normal-m-requires c = row-at (c.requires.faces) _ c.loop-k-test.true

pub put_normal-requires : goal.put_normal-requires
put_normal-requires c =
    record { whole = (c.loop-k.invariant (c.requires.faces)).normal_room; low = low c; small = face-normal (face_of_lem c) }

pub six_of-requires : goal.six_of-requires
six_of-requires c = face_of_lem-2 c

pub offset_bounds-sixes-k : goal.offset_bounds-sixes-k
offset_bounds-sixes-k c = omega (arith, low-2 c)

pub bounds-sixes-k : goal.bounds-sixes-k
bounds-sixes-k c = low-2 c

pub loop-k-preserved : goal.loop-k-preserved
loop-k-preserved c w =
    let six = c.six_of in
    let small = subst (Within most_part) (sym six.ensures) (part_small (face_of_lem-3 c)) in
    parts_more w c.loop-k.normals _ _ c.loop-k.sixes c.loop-k.k _ _ c.loop-k-test.true c.normal-m.ensures c.put_normal.ensures
    (kept small ∙ six.ensures) (c.loop-k.invariant w)

pub returns : goal.returns
returns c w =
    let l = c.loop-k in
    let p = l.invariant w in
    let e : l.k ≡ c.args.n = omega (arith, p.not_past, c.loop-k-test.false) in
    let before = c.args.sixes.now in
    parts_all w l.normals before l.sixes (subst (Parts w l.normals before l.sixes) e p)

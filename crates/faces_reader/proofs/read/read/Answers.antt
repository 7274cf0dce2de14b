-- `faces_reader::read::read`: the loop keeps that the first k faces of the list fit, and that rows holds them and nothing else. A face
-- that does not fit refuses the list, and so does a wrong end.
use mathlib.Core.Path.{sym, ap, ◌∙◌}
use mathlib.Core.List.{List}
use Prim.Native.Nat.{ℕ, ◌≤◌}
use Rattle.paper.specs.Numbers.{most_faces}
use Rattle.paper.specs.FaceList.{faces_as}
use Rattle.paper.specs.declared.Format.{Format}
use Rattle.faces_reader.specs.Face.{Brief}
use Rattle.faces_reader.proofs.Brief.{corners_small}
use Rattle.faces_reader.proofs.ReadFaces.{Counted, counted, face-known, Read}
use Rattle.faces_reader.proofs.ReadFaces.{no_list, read-start, read_next, no_face, read-ends, no_end}
use native.Mathlib.Omega.{arith}
use Rattle.faces_reader.proofs.read.read.Goals as goal

-- a list has at most 42 faces, so the bit at which the loop is is a small number
near : (f : Format) (v : ℕ) (s rows : List ℕ) (n k at : ℕ) → Brief f → Counted f s n → Read f v s k at rows → at ≤ 4212
near f v s rows n k at b o r =
    let few : k ≤ most_faces = omega (arith, r.few, o.count_is, o.most, b.f_held) in
    omega (arith, r.small, few)

pub count_in-requires : goal.count_in-requires
count_in-requires c = c.requires

pub returns-in_default : goal.returns-in_default
returns-in_default c = ap faces_as c.refused.ensures ∙ no_list c.args.f c.args.v c.args.s.now c.requires c.in_default.ensures

pub overflow_add-at : goal.overflow_add-at
overflow_add-at c = omega (arith, c.requires.slender.face_count_narrow)

pub loop-k-init : goal.loop-k-init
loop-k-init c = read-start c.args.f c.args.v c.args.s.now c.requires

pub face_at-requires : goal.face_at-requires
face_at-requires c =
    let a = c.args in
    let o = counted a.f a.s.now c.in-Some.ensures in
    record { brief = c.requires; near = omega (arith, near a.f a.v a.s.now _ _ _ _ c.requires o c.loop-k.invariant) }

pub returns-in_default-face_at : goal.returns-in_default-face_at
returns-in_default-face_at c =
    let a = c.args in
    let l = c.loop-k in
    let o = counted a.f a.s.now c.in-Some.ensures in
    ap faces_as c.refused-in_default-face_at.ensures
    ∙ no_face a.f a.v a.s.now l.k l.at l.rows (omega (arith, o.count_is, c.loop-k-test.true)) l.invariant c.in_default-face_at.ensures

pub overflow_add-at-in-loop-k : goal.overflow_add-at-in-loop-k
overflow_add-at-in-loop-k c =
    let a = c.args in
    omega (arith, near a.f a.v a.s.now _ _ _ _ c.requires (counted a.f a.s.now c.in-Some.ensures) c.loop-k.invariant)

pub slice_bounds-put_row-end : goal.slice_bounds-put_row-end
slice_bounds-put_row-end c = sym c.loop-k.invariant.kept

pub overflow_mul-k : goal.overflow_mul-k
overflow_mul-k c =
    let o = counted c.args.f c.args.s.now c.in-Some.ensures in
    omega (arith, c.loop-k.invariant.few, o.count_is, o.most, c.requires.f_held)

pub put_row-requires : goal.put_row-requires
put_row-requires c =
    let a = c.args in
    let o = counted a.f a.s.now c.in-Some.ensures in
    let face = face-known a.f a.v a.s.now c.loop-k.at c.in-Some-face_at.ensures in
    record {
      fields = record {
        narrow = c.requires.slender.vertex_number_narrow;
        few = face.corners_most;
        inside = face.inside;
        near = omega (arith, near a.f a.v a.s.now _ _ _ _ c.requires o c.loop-k.invariant);
      };
      roomy = omega (arith, o.most, c.requires.f_held, c.loop-k-test.true, c.loop-k.invariant.kept);
    }

pub overflow_add-at-in-loop-k-2 : goal.overflow_add-at-in-loop-k-2
overflow_add-at-in-loop-k-2 c =
    let a = c.args in
    omega (arith, near a.f a.v a.s.now _ _ _ _ c.requires (counted a.f a.s.now c.in-Some.ensures) c.loop-k.invariant)

pub overflow_mul-at : goal.overflow_mul-at
overflow_mul-at c =
    let a = c.args in
    let face = face-known a.f a.v a.s.now c.loop-k.at c.in-Some-face_at.ensures in
    omega (arith, corners_small c.requires.slender.vertex_number_narrow face.corners_most)

pub overflow_add-at-in-loop-k-3 : goal.overflow_add-at-in-loop-k-3
overflow_add-at-in-loop-k-3 c =
    let a = c.args in
    let o = counted a.f a.s.now c.in-Some.ensures in
    let face = face-known a.f a.v a.s.now c.loop-k.at c.in-Some-face_at.ensures in
    let bits = corners_small c.requires.slender.vertex_number_narrow face.corners_most in
    omega (arith, near a.f a.v a.s.now _ _ _ _ c.requires o c.loop-k.invariant, bits)

pub loop-k-preserved : goal.loop-k-preserved
loop-k-preserved c =
    let a = c.args in
    let l = c.loop-k in
    let o = counted a.f a.s.now c.in-Some.ensures in
    let face = face-known a.f a.v a.s.now l.at c.in-Some-face_at.ensures in
    read_next a.f a.v a.s.now l.k l.at l.rows (omega (arith, o.count_is, c.loop-k-test.true)) l.invariant c.requires
    (omega (arith, o.most, c.requires.f_held, c.loop-k-test.true)) face c.put_row.auto.rows c.put_row.ensures

pub closes-requires : goal.closes-requires
closes-requires c =
    let a = c.args in
    omega (arith, near a.f a.v a.s.now _ _ _ _ c.requires (counted a.f a.s.now c.in-Some.ensures) c.loop-k.invariant)

pub returns-then-closes : goal.returns-then-closes
returns-then-closes c =
    let a = c.args in
    let l = c.loop-k in
    read-ends a.f a.v a.s.now c.in-Some.n l.k l.at l.rows (counted a.f a.s.now c.in-Some.ensures) l.invariant c.loop-k-test.false
    (sym c.closes.ensures ∙ c.if-closes.true)

pub returns : goal.returns
returns c =
    let a = c.args in
    let l = c.loop-k in
    ap faces_as c.refused-2.ensures
    ∙ no_end a.f a.v a.s.now c.in-Some.n l.k l.at l.rows (counted a.f a.s.now c.in-Some.ensures) l.invariant c.loop-k-test.false
    (sym c.closes.ensures ∙ c.if-closes.false)

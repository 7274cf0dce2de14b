-- `faces_writer::write::put_face`: the corner count is put, and the corners behind it; a row that fits has them.
use mathlib.Core.Path.{◌≡◌, sym, ap, ◌∙◌}
use Prim.Native.Nat.{ℕ, ◌+◌, ◌*◌, ◌≤◌}
use lib.ListN.{length}
use Rattle.pack.specs.Bits.{run}
use Rattle.pack.proofs.Laws.{length_run}
use Rattle.paper.specs.Numbers.{row_bytes}
use Rattle.paper.specs.FaceList.{span, row_at}
use Rattle.faces_writer.specs.Send.{way, row_alone}
use Rattle.faces_reader.proofs.Brief.{corners_small}
use Rattle.faces_writer.proofs.Fits.{way_length}
use Rattle.faces_writer.proofs.RowAt.{count_at, Whole, row-whole}
use Rattle.faces_writer.proofs.Weight.{face_span}
use Rattle.faces_writer.proofs.SendFaces.{one-fits, one_span, face_put}
use native.Mathlib.Omega.{arith}
use Rattle.faces_writer.proofs.write.put_face.Goals as goal

whole : (c : goal.After-shared_slice_known-2-1-unread) → Whole c.args.f c.args.rows.now c.args.k
whole c =
    let a = c.args in
    row-whole a.f a.rows.now a.k (one-fits a.f a.back (row_at a.rows.now a.k) c.requires.faces.fit)

-- ---- what is known as the call begins: the row, the bits of its face, and that they are few

abbrev count : goal.After-put-arg-1 → ℕ
count c = count_at c.args.rows.now c.args.k

whole-2 : (c : goal.After-put-arg-1) → Whole c.args.f c.args.rows.now c.args.k
whole-2 c =
    let a = c.args in
    row-whole a.f a.rows.now a.k (one-fits a.f a.back (row_at a.rows.now a.k) c.requires.faces.fit)

span_is : (c : goal.After-put-arg-1) → span c.args.f (row_alone c.args.rows.now c.args.k c.args.back) ≡ face_span c.args.f (count c)
span_is c =
    let a = c.args in
    one_span a.f a.back (row_at a.rows.now a.k) ∙ ap (face_span a.f) (whole-2 c).length_is

abbrev count-2 : goal.After-put_corners-arg-1 → ℕ
count-2 c = count_at c.args.rows.now c.args.k

whole-3 : (c : goal.After-put_corners-arg-1) → Whole c.args.f c.args.rows.now c.args.k
whole-3 c =
    let a = c.args in
    row-whole a.f a.rows.now a.k (one-fits a.f a.back (row_at a.rows.now a.k) c.requires.faces.fit)

span_is-2 : (c : goal.After-put_corners-arg-1) → span c.args.f (row_alone c.args.rows.now c.args.k c.args.back) ≡ face_span c.args.f (count-2 c)
span_is-2 c =
    let a = c.args in
    one_span a.f a.back (row_at a.rows.now a.k) ∙ ap (face_span a.f) (whole-3 c).length_is

abbrev count-3 : goal.After-struct_known-1 → ℕ
count-3 c = count_at c.args.rows.now c.args.k

whole-4 : (c : goal.After-struct_known-1) → Whole c.args.f c.args.rows.now c.args.k
whole-4 c =
    let a = c.args in
    row-whole a.f a.rows.now a.k (one-fits a.f a.back (row_at a.rows.now a.k) c.requires.faces.fit)

few_bits : (c : goal.After-struct_known-1) → c.args.f.vertex_number_bits * count-3 c ≤ 96
few_bits c = corners_small c.requires.faces.brief.slender.vertex_number_narrow (whole-4 c).most

span_is-3 : (c : goal.After-struct_known-1) → span c.args.f (row_alone c.args.rows.now c.args.k c.args.back) ≡ face_span c.args.f (count-3 c)
span_is-3 c =
    let a = c.args in
    one_span a.f a.back (row_at a.rows.now a.k) ∙ ap (face_span a.f) (whole-4 c).length_is

-- ---- the needs

pub bounds-rows-first : goal.bounds-rows-first
bounds-rows-first c = omega (arith, whole c)

pub overflow_cast-c : goal.overflow_cast-c
overflow_cast-c c = omega (arith, c.type_inv.rows (row_bytes * c.args.k))

pub put-requires : goal.put-requires
put-requires c = omega (arith, span_is c, c.requires.faces.roomy)

pub overflow_add-b : goal.overflow_add-b
overflow_add-b c = omega (arith, c.requires.faces.near)

pub put_corners-requires : goal.put_corners-requires
put_corners-requires c =
    let w = whole-3 c in
    record {
      inside = omega (arith, w);
      narrow = c.requires.faces.brief.slender.vertex_number_narrow;
      few = w.most;
      roomy = omega (arith, c.requires.faces.roomy, span_is-2 c, c.put.auto.s);
      near = omega (arith, c.requires.faces.near);
    }

pub overflow_mul-result : goal.overflow_mul-result
overflow_mul-result c = omega (arith, few_bits c)

pub overflow_add-result : goal.overflow_add-result
overflow_add-result c = omega (arith, few_bits c)

pub overflow_add-result-2 : goal.overflow_add-result-2
overflow_add-result-2 c = omega (arith, few_bits c, c.requires.faces.near)

pub returns : goal.returns
returns c =
    let a = c.args in
    let w = whole-4 c in
    let l = row_at a.rows.now a.k in
    let d = run 8 a.room.now in
    let h : a.b ≤ length d = rw length_run (omega (arith, c.requires.faces.roomy)) in
    let loop_is = ap (way a.back) w.loop_is in
    let length_is = way_length a.back l ∙ w.length_is in
    let put = face_put a.f (way a.back l) _ (count-3 c) d a.b loop_is length_is h c.put.ensures c.put_corners.ensures in
    record {
      end = ap (λ (n : ℕ). a.b + n) (sym (span_is-3 c));
      put = put;
    }

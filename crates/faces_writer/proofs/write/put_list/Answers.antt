-- `faces_writer::write::put_list`: four calls write one behind the other: the edition, the count, the faces, the fill. What each leaves
-- is the room of the next.
use mathlib.Core.Path.{◌≡◌, ◌∙◌}
use mathlib.Core.List.{List}
use Prim.Native.Nat.{◌+◌, ◌≤◌}
use Rattle.paper.specs.Loops.{Loop}
use Rattle.paper.specs.FaceList.{bits_of, solid_faces}
use Rattle.faces_laws.proofs.Packed.{size_is}
use Rattle.faces_writer.specs.Send.{list_head}
use Rattle.faces_writer.proofs.Weight.{solid_small}
use Rattle.faces_writer.proofs.Sent.{listed}
use native.Mathlib.Omega.{arith}
use Rattle.faces_writer.proofs.write.put_list.Goals as goal

-- ---- what is known as the call begins: b is the faces' bits, which are few

abbrev faces : goal.After-put-arg-1 → List Loop
faces c = let a = c.args in solid_faces a.rows.now a.solid.now

ends : (c : goal.After-put-arg-1) → list_head c.args.f + c.args.b ≡ bits_of c.args.f (faces c)
ends c = size_is c.args.f (faces c) c.requires.weighed.span_is

abbrev faces-2 : goal.After-put-arg-2-1 → List Loop
faces-2 c = let a = c.args in solid_faces a.rows.now a.solid.now

ends-2 : (c : goal.After-put-arg-2-1) → list_head c.args.f + c.args.b ≡ bits_of c.args.f (faces-2 c)
ends-2 c = size_is c.args.f (faces-2 c) c.requires.weighed.span_is

abbrev faces-3 : goal.After-put_faces-arg-1 → List Loop
faces-3 c = let a = c.args in solid_faces a.rows.now a.solid.now

ends-3 : (c : goal.After-put_faces-arg-1) → list_head c.args.f + c.args.b ≡ bits_of c.args.f (faces-3 c)
ends-3 c = size_is c.args.f (faces-3 c) c.requires.weighed.span_is

small : (c : goal.After-struct_known-1) → c.args.b ≤ 6400
small c =
    let a = c.args in
    omega (arith, solid_small a.f a.rows.now a.solid.now c.requires.brief c.requires.weighed.fit, c.requires.weighed.span_is)

abbrev faces-4 : goal.After-struct_known-1 → List Loop
faces-4 c = let a = c.args in solid_faces a.rows.now a.solid.now

ends-4 : (c : goal.After-struct_known-1) → list_head c.args.f + c.args.b ≡ bits_of c.args.f (faces-4 c)
ends-4 c = size_is c.args.f (faces-4 c) c.requires.weighed.span_is

abbrev faces-5 : goal.After-slice_known-5-1 → List Loop
faces-5 c = let a = c.args in solid_faces a.rows.now a.solid.now

-- ---- the needs

pub put-requires : goal.put-requires
put-requires c = omega (arith, ends c, c.requires.roomy)

pub put-requires-2 : goal.put-requires-2
put-requires-2 c =
    omega (arith, ends-2 c, c.requires.roomy, c.requires.brief.slender.face_count_narrow, c.put.auto.s)

pub put_faces-requires : goal.put_faces-requires
put_faces-requires c =
    let w = c.requires.weighed in
    record {
      brief = c.requires.brief;
      fit = w.fit;
      roomy = omega (arith, ends-3 c, w.span_is, c.requires.roomy, c.put.auto.s, c.put-2.auto.s);
      near = omega (arith, c.requires.brief.slender.face_count_narrow);
    }

pub overflow_add-f-2 : goal.overflow_add-f-2
overflow_add-f-2 c =
    omega (arith, small c, c.requires.brief.slender.face_count_narrow)

pub put_fill-requires : goal.put_fill-requires
put_fill-requires c =
    omega (
      arith,
      ends-4 c,
      small c,
      c.requires.roomy,
      c.requires.brief.slender.face_count_narrow,
      c.put.auto.s,
      c.put-2.auto.s,
      c.put_faces.auto.room,
    )

pub returns : goal.returns
returns c =
    let a = c.args in
    let kept = c.put_fill.auto.s ∙ c.put_faces.auto.room ∙ c.put-2.auto.s ∙ c.put.auto.s in
    listed a.f (faces-5 c) a.room.now c.put_fill.new.s c.requires kept
    (λ i. omega (arith, c.slice_known-1.given i)) (λ i. omega (arith, c.type_inv.room i))
    c.put.ensures c.put-2.ensures c.put_faces.ensures c.put_fill.ensures

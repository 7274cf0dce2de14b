-- `faces_writer::write::put_taken`: a taken candidate is the one face that is put, one left out is no face.
use mathlib.Core.Path.{◌≡◌, sym, ap, ◌∙◌, subst}
use mathlib.Core.List.{List, []}
use Prim.Native.Nat.{◌+◌}
use Rattle.pack.specs.Bits.{run, overwrite}
use Rattle.paper.specs.Loops.{Loop}
use Rattle.paper.specs.FaceList.{span}
use Rattle.faces_writer.specs.Send.{row_alone, face_alone, faces_bits}
use Rattle.faces_writer.specs.Asked.{SendsOne}
use Rattle.faces_writer.proofs.SendFaces.{alone_taken, alone-left, none-span, none_put}
use Rattle.faces_writer.proofs.write.put_taken.Goals as goal

-- ---- what candidate k gives

abbrev alone : goal.After-put_face-arg-1 → List Loop
alone c = let a = c.args in face_alone a.rows.now a.solid.now a.k

-- it is the face that is put, as the record tells
is-put : (c : goal.After-put_face-arg-1) → alone c ≡ row_alone c.args.rows.now c.args.k c.is_turned.result
is-put c =
    let a = c.args in
    alone_taken a.rows.now a.solid.now a.k (sym c.is_taken.ensures ∙ c.if-is_taken.true)
    ∙ sym (ap (row_alone a.rows.now a.k) c.is_turned.ensures)

abbrev alone-2 : goal.After-slice_known-then-is_taken-1 → List Loop
alone-2 c = let a = c.args in face_alone a.rows.now a.solid.now a.k

is-put-2 : (c : goal.After-slice_known-then-is_taken-1) → alone-2 c ≡ row_alone c.args.rows.now c.args.k c.is_turned.result
is-put-2 c =
    let a = c.args in
    alone_taken a.rows.now a.solid.now a.k (sym c.is_taken.ensures ∙ c.if-is_taken.true)
    ∙ sym (ap (row_alone a.rows.now a.k) c.is_turned.ensures)

abbrev alone-3 : goal.Else-is_taken → List Loop
alone-3 c = let a = c.args in face_alone a.rows.now a.solid.now a.k

is_none : (c : goal.Else-is_taken) → alone-3 c ≡ []
is_none c =
    let a = c.args in
    alone-left a.rows.now a.solid.now a.k (sym c.is_taken.ensures ∙ c.if-is_taken.false)

-- ---- the needs

pub put_face-requires : goal.put_face-requires
put_face-requires c =
    let a = c.args in
    subst (λ (fs : List Loop). SendsOne a.f a.k fs a.room.now a.b) (is-put c) c.requires

pub returns-then-is_taken : goal.returns-then-is_taken
returns-then-is_taken c =
    let a = c.args in
    let e = sym (is-put-2 c) in record {
      end = c.put_face.ensures.end ∙ ap (λ (fs : List Loop). a.b + span a.f fs) e;
      put = c.put_face.ensures.put ∙ ap (λ (fs : List Loop). overwrite (run 8 a.room.now) a.b (faces_bits a.f fs)) e;
    }

pub returns : goal.returns
returns c =
    let a = c.args in
    record {
      end = none-span a.f a.b (is_none c);
      put = none_put a.f (run 8 a.room.now) a.b (is_none c);
    }

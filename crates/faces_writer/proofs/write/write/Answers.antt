-- `faces_writer::write::write`: each return is one way out of the table: faces that do not fit, their count, the room, the list. What
-- the faces weigh is known from `weigh_all`.
use mathlib.Core.Path.{◌≡◌, sym, ap, ◌∙◌}
use mathlib.Core.Bool.{Bool}
use mathlib.Core.List.{List}
use Prim.Native.Nat.{ℕ}
use lib.ListN.{length}
use Rattle.std.specs.Prelude.{Ok}
use Rattle.paper.specs.Numbers.{least_faces}
use Rattle.paper.specs.Format.{outside, bytes_for}
use Rattle.paper.specs.Loops.{Loop}
use Rattle.paper.specs.FaceList.{solid_faces}
use Rattle.paper.specs.declared.Format.{Format}
use Rattle.faces_laws.proofs.Packed.{size_is}
use Rattle.faces_writer.specs.Send.{Weighed}
use Rattle.faces_writer.proofs.Weight.{weighed, misfit, solid_small}
use Rattle.faces_writer.proofs.Sent.{result_misfit, result_count, result_short, result_fine}
use native.Mathlib.Omega.{arith}
use Rattle.faces_writer.proofs.write.write.Goals as goal

-- what the test of the count finds
counted : (f : Format) (fs : List Loop) (n b : ℕ) {r : Bool} → Weighed f fs n b → r ≡ outside least_faces f.most_faces n
    → outside least_faces f.most_faces (length fs) ≡ r
counted f fs n b w e = ap (outside least_faces f.most_faces) (sym w.count_is) ∙ sym e

pub returns-in_default : goal.returns-in_default
returns-in_default c =
    let a = c.args in
    let fs = solid_faces a.rows.now a.solid.now in
    let r = result_misfit a.f fs a.room.now (misfit a.f fs c.in_default.ensures) in
    record { answer = c.refused.ensures ∙ r.0; kept = r.1 }

pub returns-then-is_outside : goal.returns-then-is_outside
returns-then-is_outside c =
    let a = c.args in
    let fs = solid_faces a.rows.now a.solid.now in
    let w = weighed a.f fs c.in-Some.ensures in
    let r = result_count a.f fs a.room.now (counted a.f fs _ _ w c.is_outside.ensures ∙ c.if-is_outside.true) in
    record { answer = c.refused-then-is_outside.ensures ∙ r.0; kept = r.1 }

pub overflow_add-size-2 : goal.overflow_add-size-2
overflow_add-size-2 c =
    let a = c.args in
    let w = weighed a.f (solid_faces a.rows.now a.solid.now) c.in-Some.ensures in
    omega (arith, solid_small a.f a.rows.now a.solid.now c.requires w.fit, w.span_is, c.requires.slender.face_count_narrow)

pub overflow_add-size-3 : goal.overflow_add-size-3
overflow_add-size-3 c =
    let a = c.args in
    let w = weighed a.f (solid_faces a.rows.now a.solid.now) c.in-Some.ensures in
    omega (arith, solid_small a.f a.rows.now a.solid.now c.requires w.fit, w.span_is, c.requires.slender.face_count_narrow)

pub returns-then-room-size : goal.returns-then-room-size
returns-then-room-size c =
    let a = c.args in
    let fs = solid_faces a.rows.now a.solid.now in
    let w = weighed a.f fs c.in-Some.ensures in
    let many = counted a.f fs _ _ w c.is_outside.ensures ∙ c.if-is_outside.false in
    let r = result_short a.f fs a.room.now many w.fit (rw (size_is a.f fs w.span_is) at c.if-room-size.true) in
    record { answer = c.refused-then-room-size.ensures ∙ r.0; kept = r.1 }

pub put_list-requires : goal.put_list-requires
put_list-requires c =
    let a = c.args in
    let fs = solid_faces a.rows.now a.solid.now in
    let w = weighed a.f fs c.in-Some.ensures in
    record { brief = c.requires; weighed = w; roomy = rw (size_is a.f fs w.span_is) at c.if-room-size.false }

pub returns : goal.returns
returns c =
    let a = c.args in
    let fs = solid_faces a.rows.now a.solid.now in
    let w = weighed a.f fs c.in-Some.ensures in
    let ends = size_is a.f fs w.span_is in
    let many = counted a.f fs _ _ w c.is_outside.ensures ∙ c.if-is_outside.false in
    let r = result_fine a.f fs a.room.now many w.fit (rw ends at c.if-room-size.false) in
    record {
      answer = ap (λ (n : ℕ). Ok (bytes_for n)) ends ∙ r.0;
      kept = c.put_list.ensures ∙ r.1;
    }

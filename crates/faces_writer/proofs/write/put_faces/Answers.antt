-- `faces_writer::write::put_faces`: the loop keeps that the room, with the faces left at bit b, will hold all.
use Rattle.faces_writer.proofs.SendFaces.{send_start, send_one, send_next, send_end}
use native.Mathlib.Omega.{arith}
use Rattle.faces_writer.proofs.write.put_faces.Goals as goal

-- ---- the needs

pub overflow_add-b : goal.overflow_add-b
overflow_add-b c = omega (arith, c.requires.brief.slender.face_count_narrow)

pub loop-k-init : goal.loop-k-init
loop-k-init c =
    let a = c.args in
    send_start a.f a.rows.now a.solid.now a.room.now c.requires

pub put_taken-b-requires : goal.put_taken-b-requires
put_taken-b-requires c =
    let a = c.args in
    send_one a.f a.rows.now a.solid.now a.room.now c.requires c.loop-k.k c.loop-k.b c.loop-k.room (omega arith) c.loop-k.invariant

pub loop-k-preserved : goal.loop-k-preserved
loop-k-preserved c =
    let a = c.args in
    send_next a.f a.rows.now a.solid.now a.room.now c.requires c.loop-k.k c.loop-k.b c.loop-k.room (omega arith) c.loop-k.invariant
    c.put_taken-b.new.room c.put_taken-b.auto.room c.put_taken-b.ensures.end c.put_taken-b.ensures.put

pub shape_of-room : goal.shape_of-room
shape_of-room c = c.loop-k.invariant.kept

pub returns : goal.returns
returns c =
    let l = c.loop-k in
    let a = c.args in
    send_end a.f a.rows.now a.solid.now a.room.now l.k l.b l.room (omega arith) l.invariant

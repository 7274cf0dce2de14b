-- `faces_writer::write::put_faces`: the loop keeps that the room, with the faces left at bit b, will hold all.
use Rattle.faces_writer.proofs.SendFaces.{Sending}
use Rattle.faces_writer.proofs.write.put_faces.Given as goal

abbrev pub invariant-loop-k : goal.invariant-loop-k
invariant-loop-k l = Sending l.f l.rows l.solid l.initial.room l.k l.b l.room

-- `export::nibgravel_write_faces`: the answer is told as it is, and the room is the writer's.
use Rattle.export_words.proofs.Telling.{told_as}
use Rattle.export.proofs.nibgravel_write_faces.Goals as goal

pub returns : goal.returns
returns c =
    record {
      room_is = c.write_faces.ensures.kept;
      tells = told_as c.tell.ensures c.written_said.ensures c.write_faces.ensures.said;
    }

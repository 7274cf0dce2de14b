-- `export::nibgravel_write_sheet`: the answer is told as it is, and the room is the writer's.
use Rattle.export_words.proofs.Telling.{told_as}
use Rattle.export.proofs.nibgravel_write_sheet.Goals as goal

pub returns : goal.returns
returns c =
    record {
      room_is = c.write_sheet.ensures.kept;
      tells = told_as c.tell.ensures c.written_said.ensures c.write_sheet.ensures.said;
    }

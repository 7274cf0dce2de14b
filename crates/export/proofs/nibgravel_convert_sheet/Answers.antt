-- `export::nibgravel_convert_sheet`: the answer is told as it is, and the rooms are the conversion's.
use Rattle.export_words.proofs.Telling.{converts_as}
use Rattle.export.proofs.nibgravel_convert_sheet.Goals as goal

pub returns : goal.returns
returns c =
    converts_as c.tell.ensures c.conversion_said.ensures c.convert_sheet.ensures.result

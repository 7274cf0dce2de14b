-- `export::nibgravel_check_sheet`: the verdict is told as it is.
use Rattle.export_words.proofs.Telling.{told_as}
use Rattle.export.proofs.nibgravel_check_sheet.Goals as goal

pub returns : goal.returns
returns c =
    told_as c.tell.ensures c.verdict_said.ensures c.check_sheet.ensures.said

-- `export::nibgravel_check`: the verdict is told as it is.
use Rattle.export_words.proofs.Telling.{told_as}
use Rattle.export.proofs.nibgravel_check.Goals as goal

pub returns : goal.returns
returns c =
    told_as c.tell.ensures c.verdict_said.ensures c.check.ensures.said

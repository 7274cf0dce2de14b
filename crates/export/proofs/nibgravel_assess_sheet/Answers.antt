-- `export::nibgravel_assess_sheet`: the reading is shown as it is.
use Rattle.export_words.proofs.Showing.{assesses}
use Rattle.export.proofs.nibgravel_assess_sheet.Goals as goal

pub returns : goal.returns
returns c =
    assesses c.assess_sheet.ensures c.show.ensures

-- `export::nibgravel_assess`: the reading is shown as it is.
use Rattle.export_words.proofs.Showing.{assesses}
use Rattle.export.proofs.nibgravel_assess.Goals as goal

pub returns : goal.returns
returns c =
    assesses c.assess.ensures c.show.ensures

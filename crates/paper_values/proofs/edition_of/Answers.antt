-- `paper_values::edition_of`: the one edition that there is.
use Rattle.paper.specs.Format.{edition_of}
use Rattle.paper_values.proofs.edition_of.Goals as goal

pub returns : goal.returns
unfolding edition_of
returns c = c.edition_one.ensures

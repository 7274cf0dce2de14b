-- `paper_values::edition_for`: the one edition that there is.
use Rattle.paper.specs.Format.{edition_for}
use Rattle.paper_values.proofs.edition_for.Goals as goal

pub returns : goal.returns
unfolding edition_for
returns c = c.edition_one.ensures

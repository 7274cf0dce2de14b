-- `sets::Set::and`: a bit of both words is a number of both sets.
use Rattle.sets.proofs.Sets.{and_is}
use Rattle.sets.proofs.Set.and.Goals as goal

pub returns : goal.returns
returns c = and_is

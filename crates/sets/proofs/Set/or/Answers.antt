-- `sets::Set::or`: a bit of either word is a number of either set.
use Rattle.sets.proofs.Sets.{or_is}
use Rattle.sets.proofs.Set.or.Goals as goal

pub returns : goal.returns
returns c = or_is

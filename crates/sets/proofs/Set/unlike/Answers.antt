-- `sets::Set::unlike`: a bit of one word and not of the other.
use Rattle.sets.proofs.Sets.{unlike_is}
use Rattle.sets.proofs.Set.unlike.Goals as goal

pub returns : goal.returns
returns c = unlike_is

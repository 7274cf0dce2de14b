-- `sets::Set::has`: shifted by k, the bit of k is the lowest.
use Rattle.sets.proofs.Sets.{has_is}
use Rattle.sets.proofs.Set.has.Goals as goal

pub returns : goal.returns
returns c = has_is c.args.k

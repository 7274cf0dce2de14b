-- `sets::Set::none`: the word 0 has no bit.
use Rattle.sets.proofs.Sets.{none_is}
use Rattle.sets.proofs.Set.none.Goals as goal

pub returns : goal.returns
returns c = none_is

-- `sets::Set::just`: 1, shifted by k, has the one bit of k.
use Rattle.sets.specs.Sets.{room}
use Rattle.sets.proofs.Word.{one_shl}
use Rattle.sets.proofs.Sets.{just_is}
use Rattle.sets.proofs.Set.just.Goals as goal

pub returns : goal.returns
returns c = just_is c.args.k c.requires _ (one_shl room c.args.k c.requires)

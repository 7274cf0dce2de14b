-- `sets::Set::with`: 1, shifted by k, has the one bit of k, which the word then has too.
use Rattle.sets.specs.Sets.{room}
use Rattle.sets.proofs.Word.{one_shl}
use Rattle.sets.proofs.Sets.{with_is}
use Rattle.sets.proofs.Set.with.Goals as goal

pub returns : goal.returns
returns c = with_is c.args.k c.requires _ (one_shl room c.args.k c.requires)

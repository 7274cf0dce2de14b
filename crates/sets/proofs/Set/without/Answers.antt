-- `sets::Set::without`: 1, shifted by k, has the one bit of k, which the word then has not.
use native.Mathlib.Omega.{arith}
use Rattle.sets.specs.Sets.{room}
use Rattle.sets.proofs.Word.{one_shl}
use Rattle.sets.proofs.Sets.{without_is}
use Rattle.sets.proofs.Set.without.Goals as goal

pub returns : goal.returns
returns c = without_is c.args.k c.requires _ (one_shl room c.args.k c.requires) (omega arith)

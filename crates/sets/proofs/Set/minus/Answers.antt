-- `sets::Set::minus`: a bit of one word and not of the other is a number of the one set and not of the other.
use native.Mathlib.Omega.{arith}
use Rattle.sets.proofs.Sets.{minus_is}
use Rattle.sets.proofs.Set.minus.Goals as goal

pub returns : goal.returns
returns c = minus_is (omega arith) (omega arith)

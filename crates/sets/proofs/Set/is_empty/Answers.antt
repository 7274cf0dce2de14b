-- `sets::Set::is_empty`: a word has no ones just where it is 0.
use native.Mathlib.Omega.{arith}
use Rattle.sets.proofs.Sets.{empty_is}
use Rattle.sets.proofs.Set.is_empty.Goals as goal

pub returns : goal.returns
returns c = empty_is (omega arith)

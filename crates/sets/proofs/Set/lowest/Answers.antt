-- `sets::Set::lowest`: the zeros below the lowest one of a word are that number, which is below 64 since the set is not empty.
use native.Mathlib.Omega.{arith}
use lib.Count.{count_trailing_zeros}
use Rattle.sets.specs.Kinds.{Lowest}
use Rattle.sets.specs.Sets.{room, one_word}
use Rattle.sets.proofs.Sets.{lowest_is}
use Rattle.sets.proofs.Set.lowest.Goals as goal

-- the lowest is below 64, so it fits any integer type
known : (c : goal.After-struct_known-1) → Lowest one_word c.args.self (count_trailing_zeros room c.args.self.word)
known c = lowest_is (omega arith) c.requires

pub overflow_cast-result : goal.overflow_cast-result
overflow_cast-result c = let low = known c in omega (arith, low)

pub returns : goal.returns
returns c = known c

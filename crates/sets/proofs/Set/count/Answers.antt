-- `sets::Set::count`: the ones of a word are the numbers of its set, at most 64.
use native.Mathlib.Omega.{arith}
use lib.Count.{ones}
use Rattle.sets.specs.Kinds.{Counted}
use Rattle.sets.specs.Sets.{one_word}
use Rattle.sets.proofs.Sets.{counted}
use Rattle.sets.proofs.Set.count.Goals as goal

-- a word has at most 64 digits, so the count fits any integer type
known : (c : goal.After-struct_known-1) → Counted one_word c.args.self (ones c.args.self.word)
known c = counted c.args.self (omega arith)

pub overflow_cast-result : goal.overflow_cast-result
overflow_cast-result c = let few = known c in omega (arith, few)

pub returns : goal.returns
returns c = known c

-- `clerk_words::number_of`: −1 less the complement of a word from 2^63 on is the number.
use native.Mathlib.Omega.{arith}
use Rattle.clerk_words.proofs.Signed.{made-fits, number_is}
use Rattle.clerk_words.proofs.number_of.Goals as goal

pub overflow_sub-result : goal.overflow_sub-result
overflow_sub-result c = made-fits c.args.word (omega arith) (omega arith)

pub returns-else-word-lt-HALF : goal.returns-else-word-lt-HALF
returns-else-word-lt-HALF c = number_is c.args.word (omega arith) (omega arith)

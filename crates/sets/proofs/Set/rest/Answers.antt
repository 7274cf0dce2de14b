-- `sets::Set::rest`: one less has the digits above the lowest one and not that one, and what it has below it the word has not.
use native.Mathlib.Omega.{arith}
use Rattle.sets.proofs.Sets.{word_some, rest-is}
use Rattle.sets.proofs.Set.rest.Goals as goal

pub overflow_sub-result : goal.overflow_sub-result
overflow_sub-result c = word_some (omega arith) c.requires

pub returns : goal.returns
returns c = rest-is (omega arith) c.requires

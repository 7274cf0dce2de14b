-- `sets::is_set`: a word is a set of its own digits.
use Rattle.sets.specs.Sets.{set_digits}
use Rattle.sets.specs.declared.Set.{Set}
use Rattle.sets.proofs.Sets.{is_digits}
use native.Mathlib.Omega.{arith}
use Rattle.sets.proofs.is_set.Goals as goal

pub returns : goal.returns
unfolding set_digits
returns c = let x : Set = record { word = c.args.word } in c.has.ensures (set_digits x) (is_digits x (omega arith))

-- `sets::Set::at`: a word of the list is a set of its own digits.
use native.Mathlib.Omega.{arith}
use Rattle.sets.proofs.Sets.{set_at}
use Rattle.sets.proofs.Set.at.Goals as goal

pub returns : goal.returns
returns c = set_at _ c.args.k (omega (arith, c.type_inv.words c.args.k))

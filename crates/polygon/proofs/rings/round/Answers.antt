-- `polygon::rings::round`: below n a place is itself, and below 2n it is n less.
use mathlib.Core.Path.{sym}
use native.Mathlib.Omega.{arith}
use Rattle.lists.proofs.Sides.{wrap_high, wrap_low}
use Rattle.polygon.proofs.rings.round.Goals as goal

pub returns-then-j-n : goal.returns-then-j-n
returns-then-j-n c = let a = c.args in (sym (wrap_low a.n a.j (omega arith)), omega arith)

pub returns-else-j-n : goal.returns-else-j-n
returns-else-j-n c = let a = c.args in (sym (wrap_high a.n a.j (omega arith)), omega arith)

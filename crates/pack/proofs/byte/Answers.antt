-- `pack::byte`: past the end the list gives 0 too, and a byte is below 256.
use mathlib.Core.Path.{refl, sym}
use native.Mathlib.Omega.{arith}
use lib.ListN.{get_or-eq_default}
use Rattle.pack.proofs.byte.Goals as goal

pub returns-then-s-k : goal.returns-then-s-k
returns-then-s-k c = (sym (get_or-eq_default c.args.s.now 0 c.if-s-k.true), omega arith)

pub overflow_cast-result : goal.overflow_cast-result
overflow_cast-result c = omega (arith, c.type_inv.s c.args.k)

pub returns : goal.returns
returns c = (refl, omega (arith, c.type_inv.s c.args.k))

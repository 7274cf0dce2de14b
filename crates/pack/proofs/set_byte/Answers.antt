-- `pack::set_byte`: past the end nothing is set, as the definition has it.
use mathlib.Core.Path.{sym}
use lib.Seq.{set_out}
use Rattle.pack.proofs.set_byte.Goals as goal

pub returns-then-s-k : goal.returns-then-s-k
returns-then-s-k c = sym (set_out c.args.s.now c.args.k c.args.b c.if-s-k.true)

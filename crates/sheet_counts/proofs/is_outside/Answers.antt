-- `sheet_counts::is_outside`: the code asks the two halves of `outside` in order.
use mathlib.Core.Path.{refl}
use borrow.Author.Tests.{lt-ltb, le-ltb}
use Rattle.sheet_counts.proofs.is_outside.Goals as goal

pub returns-then-n-lo : goal.returns-then-n-lo
returns-then-n-lo c = rw (lt-ltb _ _ c.if-n-lo.true) refl

pub returns : goal.returns
returns c = rw (le-ltb _ _ c.if-n-lo.false) refl

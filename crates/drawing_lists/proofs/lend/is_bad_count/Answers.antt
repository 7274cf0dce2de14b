-- `drawing_lists::lend::is_bad_count`: the code asks for a remainder and then for the count.
use mathlib.Core.Path.{refl}
use borrow.Author.Tests.{eq-eqb, ne_eqb}
use Rattle.drawing_lists.proofs.lend.is_bad_count.Goals as goal

pub returns-then-n-k-ne0 : goal.returns-then-n-k-ne0
returns-then-n-k-ne0 c = rw (ne_eqb _ _ c.if-n-k-ne0.true) refl

pub returns : goal.returns
returns c = rw (eq-eqb _ _ c.if-n-k-ne0.false) c.is_outside.ensures

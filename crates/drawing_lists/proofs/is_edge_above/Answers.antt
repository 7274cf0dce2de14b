-- `drawing_lists::is_edge_above`: the code asks the parts of the order of pairs one by one.
use mathlib.Core.Path.{refl}
use borrow.Author.Tests.{lt-ltb, le-ltb, eq-eqb, ne_eqb}
use Rattle.drawing_lists.proofs.is_edge_above.Goals as goal

pub returns-then-a0-a : goal.returns-then-a0-a
returns-then-a0-a c = rw (lt-ltb _ _ c.if-a0-a.true) refl

pub returns-then-a0-a-2 : goal.returns-then-a0-a-2
returns-then-a0-a-2 c = rw (le-ltb _ _ c.if-a0-a.false, eq-eqb _ _ c.if-a0-a-2.true) refl

pub returns : goal.returns
returns c = rw (le-ltb _ _ c.if-a0-a.false, ne_eqb _ _ c.if-a0-a-2.false) refl

-- `drawing_lists::is_wrong`: the code asks the three parts of 9 one by one.
use mathlib.Core.Path.{refl}
use borrow.Author.Tests.{le-leb, lt-leb}
use Rattle.drawing_lists.proofs.is_wrong.Goals as goal

pub returns-then-v-a : goal.returns-then-v-a
returns-then-v-a c = rw (le-leb _ _ c.if-v-a.true) refl

pub returns-then-v-b : goal.returns-then-v-b
returns-then-v-b c = rw (lt-leb _ _ c.if-v-a.false, le-leb _ _ c.if-v-b.true) refl

pub returns : goal.returns
returns c = rw (lt-leb _ _ c.if-v-a.false, lt-leb _ _ c.if-v-b.false) refl

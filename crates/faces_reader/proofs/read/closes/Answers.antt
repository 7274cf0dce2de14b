-- `faces_reader::read::closes`: the length is tested first, then the bits behind the first n.
use mathlib.Core.Path.{refl}
use borrow.Author.Tests.{eq-eqb, ne_eqb}
use Rattle.paper.specs.Format.{fill_after}
use Rattle.faces_reader.specs.Face.{closes_at}
use Rattle.faces_reader.proofs.read.closes.Goals as goal

pub returns-then-s-n : goal.returns-then-s-n
unfolding closes_at
returns-then-s-n c = rw (ne_eqb _ _ c.if-s-n.true) refl

pub returns : goal.returns
unfolding closes_at fill_after
returns c = rw (eq-eqb _ _ c.if-s-n.false, c.field.ensures) refl

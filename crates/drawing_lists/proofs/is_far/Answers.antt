-- `drawing_lists::is_far`: a number that fits an `i64` is the one that its bits say, so the code's two tests are those of 8.
use mathlib.Core.Path.{refl}
use mir.Syntax.{w64}
use mir.ValLaws.{to_z-of_z}
use Rattle.drawing_lists.proofs.is_far.Goals as goal

pub returns-then-z : goal.returns-then-z
returns-then-z c = let e = to_z-of_z w64 c.args.z c.ranges.z in rw (e, rw e at c.if-z.true) refl

pub returns-else-z : goal.returns-else-z
returns-else-z c = let e = to_z-of_z w64 c.args.z c.ranges.z in rw (e, rw e at c.if-z.false) refl

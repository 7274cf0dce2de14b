-- `inside::placed`: off the border, an odd number of sides over the point is inside.
use mathlib.Core.Bool.{false}
use mathlib.Core.Path.{ap, sym}
use Rattle.paper.specs.Polygon.{placed}
use Rattle.inside.proofs.placed.Goals as goal

pub returns-then-odd : goal.returns-then-odd
unfolding placed
returns-then-odd c = ap (placed false) (sym c.if-odd.true)

pub returns-else-odd : goal.returns-else-odd
unfolding placed
returns-else-odd c = ap (placed false) (sym c.if-odd.false)

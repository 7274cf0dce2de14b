-- `polygon::points::same_point`: two points are the same where their difference is the origin.
use mathlib.Core.Path.{◌∙◌, ap}
use Rattle.paper.specs.Points.{is_origin, same_point}
use Rattle.polygon.proofs.points.same_point.Goals as goal

pub returns : goal.returns
unfolding same_point
returns c = c.is_origin.ensures ∙ ap is_origin c.minus.ensures

-- `clash_fold::turns_at`: the angle is asked only at the point, as `&&` does.
use mathlib.Core.Bool.{Bool, ◌&&◌}
use mathlib.Core.Path.{◌∙◌, ap, sym}
use Rattle.paper.specs.Clash.{in_angle}
use Rattle.clash_fold.proofs.turns_at.Goals as goal

-- the answer, where the corner is at the point or not
abbrev answer : goal.After-in_angle → Bool → Bool
answer c b = let a = c.args in b && in_angle a.m a.a a.p a.b a.w

abbrev answer-2 : goal.Else-same_point → Bool → Bool
answer-2 c b = let a = c.args in b && in_angle a.m a.a a.p a.b a.w

pub returns-then-same_point : goal.returns-then-same_point
returns-then-same_point c =
    c.in_angle.ensures ∙ ap (answer c) (sym c.if-same_point.true ∙ c.same_point.ensures)

pub returns-else-same_point : goal.returns-else-same_point
returns-else-same_point c =
    ap (answer-2 c) (sym c.if-same_point.false ∙ c.same_point.ensures)

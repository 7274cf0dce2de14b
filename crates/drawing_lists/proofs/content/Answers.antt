-- `drawing_lists::content`: the lowest coordinate out of range is 8, and the rest is that of 9 and 10.
use mathlib.Core.Path.{◌∙◌, sym, ap}
use Rattle.lists.specs.Found.{found}
use Rattle.paper_laws.proofs.Checks.{stops, passes}
use Rattle.paper.specs.Sheet.{content_checks}
use Rattle.drawing_lists.proofs.content.Goals as goal

pub returns-in-Some : goal.returns-in-Some
unfolding content_checks
returns-in-Some c =
    c.refused.ensures ∙ stops _ _ (sym (ap found c.in-Some.is) ∙ c.first_far.ensures)

pub returns-in-None : goal.returns-in-None
unfolding content_checks
returns-in-None c =
    c.edges.ensures ∙ passes _ _ (sym (ap found c.in-None.is) ∙ c.first_far.ensures)

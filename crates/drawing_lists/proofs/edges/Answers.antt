-- `drawing_lists::edges`: the two searches in order are the checks of 9 and 10.
use Rattle.lists.specs.Lists.{lowest}
use lib.ListN.{length}
use Prim.Native.Nat.{◌/◌}
use mathlib.Core.Option.{none}
use mathlib.Core.Path.{◌∙◌, sym, ap, ◌≡◌}
use Rattle.lists.specs.Found.{found}
use Rattle.paper_laws.proofs.Checks.{stops, passes, clear}
use Rattle.paper.specs.Sheet.{edge_checks, wrong_at}
use Rattle.drawing_lists.proofs.edges.Goals as goal

-- no edge is wrong
nine-passes : (c : goal.After-refused-in-Some-first_low)
    → let a = c.args in none ≡ lowest (wrong_at a.v a.ends.now) (length a.ends.now / 2)
nine-passes c = sym (ap found c.in-None.is) ∙ c.first_wrong.ensures

nine-passes-2 : (c : goal.In-None-first_low)
    → let a = c.args in none ≡ lowest (wrong_at a.v a.ends.now) (length a.ends.now / 2)
nine-passes-2 c = sym (ap found c.in-None.is) ∙ c.first_wrong.ensures

pub returns-in-Some : goal.returns-in-Some
unfolding edge_checks
returns-in-Some c =
    c.refused.ensures ∙ stops _ _ (sym (ap found c.in-Some.is) ∙ c.first_wrong.ensures)

pub returns-in-Some-first_low : goal.returns-in-Some-first_low
unfolding edge_checks
returns-in-Some-first_low c =
    c.refused-in-Some-first_low.ensures
    ∙ stops _ _ (sym (ap found c.in-Some-first_low.is) ∙ c.first_low.ensures)
    ∙ passes _ _ (nine-passes c)

pub returns-in-None-first_low : goal.returns-in-None-first_low
unfolding edge_checks
returns-in-None-first_low c =
    clear
    ∙ passes _ _ (sym (ap found c.in-None-first_low.is) ∙ c.first_low.ensures)
    ∙ passes _ _ (nine-passes-2 c)

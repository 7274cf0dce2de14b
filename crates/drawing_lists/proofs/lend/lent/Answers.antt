-- `drawing_lists::lend::lent`: the two counts of 5 in order, and then the contents.
use lib.ListN.{length}
use mathlib.Core.Bool.{false}
use mathlib.Core.Path.{◌∙◌, sym, ◌≡◌}
use Rattle.paper_laws.proofs.Checks.{holds, fails}
use Rattle.paper.specs.Numbers.{least_vertices, most_vertices}
use Rattle.paper.specs.Sheet.{lent_checks, bad_count}
use Rattle.drawing_lists.proofs.lend.lent.Goals as goal

-- the coordinates are whole and as many as they may be
vertices-pass : (c : goal.After-refused-then-is_bad_count-2)
    → let a = c.args in bad_count 3 least_vertices most_vertices (length a.xyz.now) ≡ false
vertices-pass c = sym c.is_bad_count.ensures ∙ c.if-is_bad_count.false

vertices-pass-2 : (c : goal.After-content)
    → let a = c.args in bad_count 3 least_vertices most_vertices (length a.xyz.now) ≡ false
vertices-pass-2 c = sym c.is_bad_count.ensures ∙ c.if-is_bad_count.false

pub returns-then-is_bad_count : goal.returns-then-is_bad_count
unfolding lent_checks
returns-then-is_bad_count c =
    c.refused.ensures ∙ holds _ _ _ (sym c.is_bad_count.ensures ∙ c.if-is_bad_count.true)

pub returns-then-is_bad_count-2 : goal.returns-then-is_bad_count-2
unfolding lent_checks
returns-then-is_bad_count-2 c =
    c.refused-then-is_bad_count-2.ensures
    ∙ holds _ _ _ (sym c.is_bad_count-2.ensures ∙ c.if-is_bad_count-2.true)
    ∙ fails _ _ _ (vertices-pass c)

pub returns : goal.returns
unfolding lent_checks
returns c =
    c.content.ensures
    ∙ fails _ _ _ (sym c.is_bad_count-2.ensures ∙ c.if-is_bad_count-2.false)
    ∙ fails _ _ _ (vertices-pass-2 c)

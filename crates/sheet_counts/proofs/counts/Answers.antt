-- `sheet_counts::counts`: the two tests in order are the two checks of 5.
use Rattle.paper.specs.Numbers.{least_vertices}
use Rattle.paper.specs.Format.{outside}
use mathlib.Core.Bool.{false}
use mathlib.Core.Path.{◌∙◌, sym, ◌≡◌}
use Rattle.paper_laws.proofs.Checks.{holds, fails, clear}
use Rattle.paper.specs.Sheet.{count_checks}
use Rattle.sheet_counts.proofs.counts.Goals as goal

-- past the first test there are neither too few vertices nor too many
vertices-pass : (c : goal.After-refused-then-is_outside-2)
    → outside least_vertices c.args.f.most_vertices c.args.v ≡ false
vertices-pass c = sym c.is_outside.ensures ∙ c.if-is_outside.false

vertices-pass-2 : (c : goal.Else-is_outside-2)
    → outside least_vertices c.args.f.most_vertices c.args.v ≡ false
vertices-pass-2 c = sym c.is_outside.ensures ∙ c.if-is_outside.false

pub returns-then-is_outside : goal.returns-then-is_outside
unfolding count_checks
returns-then-is_outside c = c.refused.ensures ∙ holds _ _ _ (sym c.is_outside.ensures ∙ c.if-is_outside.true)

pub returns-then-is_outside-2 : goal.returns-then-is_outside-2
unfolding count_checks
returns-then-is_outside-2 c =
    c.refused-then-is_outside-2.ensures
    ∙ holds _ _ _ (sym c.is_outside-2.ensures ∙ c.if-is_outside-2.true)
    ∙ fails _ _ _ (vertices-pass c)

pub returns : goal.returns
unfolding count_checks
returns c =
    clear ∙ fails _ _ _ (sym c.is_outside-2.ensures ∙ c.if-is_outside-2.false) ∙ fails _ _ _ (vertices-pass-2 c)

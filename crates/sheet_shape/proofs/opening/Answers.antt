-- `sheet_shape::opening`: the code's two tests are those of 3 and 4, and a sheet that passes 3 has the bits that 4 reads.
use mathlib.Core.Path.{◌≡◌, ◌∙◌, ap, sym}
use mathlib.Core.Bool.{false, not}
use borrow.Author.Tests.{lt-ltb, le-ltb, eq-eqb, ne_eqb}
use lib.Dec.{ltb}
use lib.ListN.{length}
use Rattle.paper_laws.proofs.Checks.{holds, fails, clear}
use Rattle.paper.specs.Sheet.{open_checks}
use Rattle.sheet_shape.proofs.opening.Goals as goal

-- past the first test 3 doesn't apply
three-passes : (c : goal.After-refused-then-field-f) → ltb (length c.args.s.now) 3 ≡ false
three-passes c = le-ltb _ _ c.if-s-lt3.false

three-passes-2 : (c : goal.Else-field-f) → ltb (length c.args.s.now) 3 ≡ false
three-passes-2 c = le-ltb _ _ c.if-s-lt3.false

pub returns-then-s-lt3 : goal.returns-then-s-lt3
unfolding open_checks
returns-then-s-lt3 c = c.refused.ensures ∙ holds _ _ _ (lt-ltb _ _ c.if-s-lt3.true)

pub returns-then-field-f : goal.returns-then-field-f
unfolding open_checks
returns-then-field-f c =
    let other = ap not (ne_eqb _ _ (λ q. c.if-field-f.true (c.field.ensures ∙ q))) in
    c.refused-then-field-f.ensures ∙ holds _ _ _ other ∙ fails _ _ _ (three-passes c)

pub returns : goal.returns
unfolding open_checks
returns c =
    let same = ap not (eq-eqb _ _ (sym c.field.ensures ∙ c.if-field-f.false)) in
    clear ∙ fails _ _ _ same ∙ fails _ _ _ (three-passes-2 c)

-- `drawing_segments::higher`: the number that the test picks is read back as it is.
use mathlib.Core.Path.{◌∙◌}
use Rattle.exact.proofs.Machine.{plain}
use Rattle.fast_meets.specs.Boxes.{greater}
use Rattle.drawing_segments.proofs.Bits.{picked}
use Rattle.drawing_segments.proofs.higher.Goals as goal

pub returns-then-a-b : goal.returns-then-a-b
unfolding greater
returns-then-a-b c =
    (plain c.ranges.b).reading ∙ picked c.ranges.a c.ranges.b c.args.b c.args.a c.if-a-b.true

pub returns-else-a-b : goal.returns-else-a-b
unfolding greater
returns-else-a-b c =
    (plain c.ranges.a).reading ∙ picked c.ranges.a c.ranges.b c.args.b c.args.a c.if-a-b.false

-- `drawing_segments::clear`: numbers that fit an `i64` are compared as they are.
use mathlib.Core.Bool.{◌||◌}
use lib.Signed.{lt_z}
use Rattle.exact.proofs.Machine.{plain}
use Rattle.fast_meets.specs.Boxes.{clear}
use Rattle.drawing_segments.proofs.clear.Goals as goal

pub returns : goal.returns
unfolding clear
returns c =
    let low = (plain c.ranges.low).reading in
    let high = (plain c.ranges.high).reading in
    let l = (plain c.ranges.l).reading in
    let h = (plain c.ranges.h).reading in
    λ i. lt_z (h i) (low i) || lt_z (high i) (l i)

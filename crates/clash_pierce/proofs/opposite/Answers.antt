-- `clash_pierce::opposite`: numbers that fit an `i64` are compared as they are.
use mathlib.Core.Bool.{◌&&◌, ◌||◌}
use lib.IntN.{pos}
use lib.Signed.{lt_z}
use Rattle.exact.proofs.Machine.{plain}
use Rattle.paper.specs.Clash.{opposite}
use Rattle.paper.specs.Points.{above, below}
use Rattle.clash_pierce.proofs.opposite.Goals as goal

pub returns : goal.returns
unfolding opposite above below
returns c =
    let a = (plain c.ranges.a).reading in
    let b = (plain c.ranges.b).reading in
    λ i. lt_z (a i) (pos 0) && lt_z (pos 0) (b i) || lt_z (pos 0) (a i) && lt_z (b i) (pos 0)

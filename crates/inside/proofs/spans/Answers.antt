-- `inside::spans`: numbers that fit an `i64` are compared as they are.
use mathlib.Core.Bool.{◌&&◌, ◌||◌}
use lib.Signed.{le_z}
use Rattle.exact.proofs.Machine.{plain}
use Rattle.paper.specs.Polygon.{spans}
use Rattle.inside.proofs.spans.Goals as goal

pub returns : goal.returns
unfolding spans
returns c =
    let a = (plain c.ranges.a).reading in
    let b = (plain c.ranges.b).reading in
    let p = (plain c.ranges.p).reading in
    λ i. le_z (a i) (p i) && le_z (p i) (b i) || le_z (b i) (p i) && le_z (p i) (a i)

-- `drawing_segments::overlap`: numbers that fit an `i64` are compared as they are.
use mathlib.Core.Bool.{◌&&◌, not}
use lib.IntN.{pos}
use lib.Signed.{le_z}
use Rattle.exact.proofs.Machine.{plain}
use Rattle.paper.specs.Drawing.{overlap}
use Rattle.drawing_segments.proofs.overlap.Goals as goal

pub returns : goal.returns
unfolding overlap
returns c =
    let p = (plain c.ranges.p).reading in
    let q = (plain c.ranges.q).reading in
    let m = (plain c.ranges.m).reading in
    λ i. not (le_z (p i) (pos 0) && le_z (q i) (pos 0)) && not (le_z (m i) (p i) && le_z (m i) (q i))

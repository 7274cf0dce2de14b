-- `drawing_segments::cuts_open`: numbers that fit an `i64` are compared as they are.
use mathlib.Core.Bool.{◌&&◌}
use lib.IntN.{pos}
use lib.Signed.{le_z, lt_z}
use Rattle.exact.proofs.Machine.{plain}
use Rattle.paper.specs.Drawing.{cuts_open}
use Rattle.drawing_segments.proofs.cuts_open.Goals as goal

pub returns : goal.returns
unfolding cuts_open
returns c =
    let t = (plain c.ranges.t).reading in
    let s = (plain c.ranges.s).reading in
    let m = (plain c.ranges.m).reading in
    λ i. (lt_z (pos 0) (t i) && lt_z (t i) (m i)) && (le_z (pos 0) (s i) && le_z (s i) (m i))

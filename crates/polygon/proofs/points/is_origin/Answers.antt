-- `polygon::points::is_origin`: three tests for 0, each of a number that is read back as it is.
use mathlib.Core.Bool.{◌&&◌}
use mathlib.Core.Path.{◌∙◌, ap}
use Rattle.paper.specs.Points.{is_origin, is_zero}
use Rattle.polygon.proofs.Zeros.{reads_back}
use Rattle.polygon.proofs.points.is_origin.Goals as goal

pub returns : goal.returns
unfolding is_origin
returns c =
    let p = c.args.p in
    let fits = c.struct_told-1.given in
    let x = c.is_zero.ensures ∙ ap is_zero (reads_back p.x fits.0.1) in
    let y = c.is_zero-2.ensures ∙ ap is_zero (reads_back p.y fits.1.0.1) in
    let z = c.is_zero-3.ensures ∙ ap is_zero (reads_back p.z fits.1.1.0.1) in
    λ i. (x i && y i) && z i

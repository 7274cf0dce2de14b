-- `inside::meets_ray`: the code's three tests on either side are those of the definition.
use mathlib.Core.Bool.{◌&&◌, ◌||◌, not}
use mathlib.Core.Path.{◌∙◌}
use lib.IntN.{pos}
use lib.Signed.{lt_z}
use Rattle.exact.proofs.Machine.{plain}
use Rattle.inside.proofs.Views.{ray_is}
use Rattle.inside.proofs.meets_ray.Goals as goal

pub returns : goal.returns
returns c =
    let t = (plain c.ranges.t).reading in
    let low = c.args.low in
    let high = c.args.high in
    (λ i. (low && not high) && lt_z (pos 0) (t i) || (not low && high) && lt_z (t i) (pos 0)) ∙ ray_is low high c.args.t

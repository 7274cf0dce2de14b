-- `polygon::points::det`: the cross product is small enough for the scalar product.
use mathlib.Core.Path.{◌∙◌, ap}
use Rattle.paper.specs.Points.{det, dot}
use Rattle.polygon.proofs.Sizes.{cross_small, small_eq, small_up}
use Rattle.polygon.proofs.Zeros.{reads_back}
use Rattle.polygon.proofs.points.det.Goals as goal

pub dot-requires : goal.dot-requires
dot-requires c =
    let s = c.requires in
    record { a_in = s.p_in; b_in = small_eq c.cross.ensures (small_up tt (cross_small s.q_in s.r_in)) }

pub returns : goal.returns
unfolding det
returns c =
    reads_back c.dot.result c.dot.type_inv ∙ c.dot.ensures ∙ ap (dot c.args.p) c.cross.ensures

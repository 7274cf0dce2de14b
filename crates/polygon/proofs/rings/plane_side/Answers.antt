-- `polygon::rings::plane_side`: the step from the plane to the point is small enough for the scalar product.
use mathlib.Core.Path.{◌∙◌, ap}
use Rattle.paper.specs.Points.{dot}
use Rattle.polygon.proofs.Sizes.{minus_small, small_eq, small_up}
use Rattle.polygon.proofs.Zeros.{reads_back}
use Rattle.polygon.proofs.rings.plane_side.Goals as goal

pub dot-requires : goal.dot-requires
dot-requires c =
    let s = c.requires in
    record { a_in = s.m_in; b_in = small_eq c.minus.ensures (small_up tt (minus_small s.p_in s.o_in)) }

pub returns : goal.returns
returns c =
    reads_back c.dot.result c.dot.type_inv ∙ c.dot.ensures ∙ ap (dot c.args.m) c.minus.ensures

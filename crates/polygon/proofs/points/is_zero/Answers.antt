-- `polygon::points::is_zero`: the bits of a number are 0 just where it is.
use Rattle.polygon.proofs.Zeros.{zero_is}
use Rattle.polygon.proofs.points.is_zero.Goals as goal

pub returns : goal.returns
returns c = zero_is c.args.z c.ranges.z

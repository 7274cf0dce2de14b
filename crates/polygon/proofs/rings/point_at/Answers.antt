-- `polygon::rings::point_at`: the three places are in the list.
use borrow.Author.Rules.{rules}
use Rattle.polygon.specs.Rings.{point_of}
use Rattle.polygon.proofs.rings.point_at.Goals as goal

pub returns : goal.returns
unfolding point_of
returns c = search rules

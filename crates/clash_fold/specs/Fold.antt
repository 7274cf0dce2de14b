-- Clash C at one corner.
use Rattle.std.specs.Prelude.{Bool, ◌&&◌}
use Rattle.lists.specs.Lists.{any}
use Rattle.paper.specs.Polygon.{Polygon}
use Rattle.paper.specs.Clash.{is_corner, bends}
use Rattle.paper.specs.declared.Point.{Point}

-- u is a corner of g too, and another corner of both is seen from it inside both angles
abbrev pub folds_at : Polygon → Polygon → Point → Bool
folds_at f g u = is_corner g u && any (bends f g u) f

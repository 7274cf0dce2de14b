-- Clash A of an edge, with the sides of the plane that its ends are on.
use Rattle.std.specs.Prelude.{Bool}
use Rattle.paper.specs.Polygon.{Polygon, plane_side}
use Rattle.paper.specs.Clash.{pierced}
use Rattle.paper.specs.declared.Point.{Point}

abbrev pub pierce_at : Polygon → Point → Point → Bool
pierce_at g p q = pierced g p q (plane_side g p) (plane_side g q)

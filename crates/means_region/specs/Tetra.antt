-- Tetrahedra round a point, with the sign of their direction. Positions are taken from the point.
use Rattle.std.specs.Prelude.{Bool, true, false, ℤ, pos, negsuc}
use Rattle.paper.specs.Points.{det, above}
use Rattle.paper.specs.declared.Point.{Point}

-- by four signs: 1 or -1 where they alternate, 0 otherwise
unfoldable pub alternate : Bool → Bool → Bool → Bool → ℤ
alternate true false true false = pos 1
alternate false true false true = negsuc 0
alternate true true y z = pos 0
alternate true false true true = pos 0
alternate true false false z = pos 0
alternate false false y z = pos 0
alternate false true true z = pos 0
alternate false true false false = pos 0

-- 1 or -1 where the origin is strictly inside the tetrahedron a b c d, as it turns, and 0 where it is outside; on its border one of the
-- three
unfoldable pub holds : Point → Point → Point → Point → ℤ
holds a b c d = alternate (above (det b c d)) (above (det a c d)) (above (det a b d)) (above (det a b c))

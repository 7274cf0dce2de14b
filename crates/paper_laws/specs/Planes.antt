-- A polygon whose corners all lie in its plane; a point in the plane of a polygon.
use Rattle.std.specs.Prelude.{◌≡◌, true, ℤ, pos}
use Rattle.paper.specs.Points.{minus, times, dot}
use Rattle.paper.specs.Polygon.{Polygon, normal, corner, one_plane}
use Rattle.paper.specs.declared.Point.{Point}

abbrev pub InOwnPlane : Polygon → Type 0
InOwnPlane g = one_plane g g ≡ true

-- p / n is in the plane of g
abbrev pub OnPlane : Polygon → Point → ℤ → Type 0
OnPlane g p n = dot (normal g) (minus p (times n (corner g))) ≡ pos 0

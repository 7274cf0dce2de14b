-- Vertices by the side of a plane that they are on, as sets.
use Rattle.std.specs.Prelude.{Bool, ◌&&◌, ◌≡◌, List, ℕ, ◌+◌, ◌*◌, ◌≤◌, ◌<◌, ltb, ℤ, pos, length, get_or}
use Rattle.exact.specs.Size.{Within}
use Rattle.sets.specs.Word.{dig}
use Rattle.sets.specs.Sets.{room, Is}
use Rattle.sets.specs.declared.Set.{Set}
use Rattle.paper.specs.Numbers.{farthest}
use Rattle.paper.specs.Points.{dot, minus, is_zero, above, below}
use Rattle.paper.specs.declared.Point.{Point}
use Rattle.polygon.specs.Rings.{point_of}
use Rattle.polygon.specs.Sizes.{PointWithin, most_normal}
use Rattle.walk_clashes.specs.declared.hits.Sides.{Sides}

-- how far vertex v is from the plane through o with normal m
abbrev pub side_at : List ℤ → Point → Point → ℕ → ℤ
side_at xyz m o v = dot m (minus (point_of xyz v) o)

-- coordinates and a plane within their sizes, and a vertex of them
pub record Plane (xyz : List ℤ) (m o : Point) : Type 0 where
  pub near : (k : ℕ) → Within farthest (get_or xyz k (pos 0))
  pub few : length xyz ≤ 3 * room
  pub m_in : PointWithin most_normal m
  pub o_in : PointWithin farthest o

pub record VertexOfPlane (xyz : List ℤ) (m o : Point) (v : ℕ) : Type 0 where
  pub plane : Plane xyz m o
  pub there : 3 * v + 2 < length xyz

-- the set has those of the first v numbers that pass
pub record Upto (test : ℕ → Bool) (v : ℕ) (x : Set) : Type 0 where
  pub digits : List Bool
  pub is : Is x digits
  pub each : (u : ℕ) → dig digits u ≡ (ltb u v && test u)

-- the first v vertices are sorted
pub record Sorted (xyz : List ℤ) (m o : Point) (v : ℕ) (s : Sides) : Type 0 where
  pub above_in : Upto (λ u. above (side_at xyz m o u)) v s.above
  pub below_in : Upto (λ u. below (side_at xyz m o u)) v s.below
  pub flat_in : Upto (λ u. is_zero (side_at xyz m o u)) v s.flat

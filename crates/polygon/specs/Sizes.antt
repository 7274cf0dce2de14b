-- How large the numbers are that the code holds. Each bound is what the operations before it make of coordinates within `farthest`;
-- the last are those of the piercing test, whose `turn` needs 2 ^ 61.
use Rattle.std.specs.Prelude.{ℕ, ◌*◌}
use Rattle.exact.specs.Size.{Within}
use Rattle.paper.specs.Numbers.{farthest, most_corners}
use Rattle.paper.specs.declared.Point.{Point}
use Rattle.paper.specs.declared.Flat.{Flat}

-- each coordinate is within n
pub record PointWithin (n : ℕ) (p : Point) : Type 0 where
  pub x_in : Within n p.x
  pub y_in : Within n p.y
  pub z_in : Within n p.z

pub record FlatWithin (n : ℕ) (p : Flat) : Type 0 where
  pub u_in : Within n p.u
  pub v_in : Within n p.v

-- two points, each within n
pub record PointsWithin (n : ℕ) (a b : Point) : Type 0 where
  pub a_in : PointWithin n a
  pub b_in : PointWithin n b

-- 2,000: from one point to another
abbrev pub most_step : ℕ
most_step = 2 * farthest

-- 24,000,000: a normal, the sum of a cross product for each corner
abbrev pub most_normal : ℕ
most_normal = most_corners * (2 * (farthest * farthest))

-- 144,000,000,000: how far a point is from a plane, in lengths of the normal
abbrev pub most_plane_side : ℕ
most_plane_side = 3 * (most_normal * most_step)

-- 288,000,000,000 and 288,000,000,000,000: d and p of the point p / d where an edge pierces a plane
abbrev pub most_scale : ℕ
most_scale = 2 * most_plane_side

abbrev pub most_scaled : ℕ
most_scaled = most_scale * farthest

-- what a determinant takes: a point or a normal, and two points or steps
pub record DetWithin (p q r : Point) : Type 0 where
  pub p_in : PointWithin most_normal p
  pub q_in : PointWithin most_step q
  pub r_in : PointWithin most_step r

-- a plane by its normal and a point of it, and a point to be tested
pub record PlaneWithin (m o p : Point) : Type 0 where
  pub m_in : PointWithin most_normal m
  pub o_in : PointWithin farthest o
  pub p_in : PointWithin farthest p

-- What the functions of this crate ask of rows, points and their distances from a plane.
use Rattle.std.specs.Prelude.{List, ℕ, ℤ}
use Rattle.exact.specs.Size.{Within}
use Rattle.paper.specs.Numbers.{farthest}
use Rattle.paper.specs.declared.Point.{Point}
use Rattle.polygon.specs.Sizes.{PointWithin, most_plane_side}
use Rattle.polygon.specs.Rings.{FaceRow}

-- two points, each with a weight
pub record MixWithin (s : ℤ) (p : Point) (t : ℤ) (q : Point) : Type 0 where
  pub s_in : Within most_plane_side s
  pub p_in : PointWithin farthest p
  pub t_in : Within most_plane_side t
  pub q_in : PointWithin farthest q

-- a row with its normal, and an edge from p to q, whose ends are at a and b from the row's plane
pub record FaceAndEdge (l : List ℤ) (t : List ℕ) (g : ℕ) (m p q : Point) (a b : ℤ) : Type 0 where
  pub face : FaceRow l t g m
  pub p_in : PointWithin farthest p
  pub q_in : PointWithin farthest q
  pub a_in : Within most_plane_side a
  pub b_in : Within most_plane_side b

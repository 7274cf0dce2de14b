-- What the functions of this crate ask of rows and points.
use Rattle.std.specs.Prelude.{List, ℕ, ℤ}
use Rattle.paper.specs.Numbers.{farthest}
use Rattle.paper.specs.declared.Point.{Point}
use Rattle.polygon.specs.Sizes.{PointWithin, most_step, most_normal}
use Rattle.polygon.specs.Rings.{Row, FaceRow, TwoFaces}

-- the corner p between a and b of a polygon with normal m, and a direction w
pub record AngleWithin (m a p b w : Point) : Type 0 where
  pub m_in : PointWithin most_normal m
  pub a_in : PointWithin farthest a
  pub p_in : PointWithin farthest p
  pub b_in : PointWithin farthest b
  pub w_in : PointWithin most_step w

-- such a corner, and a point that it may be at
pub record FoldWithin (m u w a p b : Point) : Type 0 where
  pub angle : AngleWithin m a p b w
  pub u_in : PointWithin farthest u

pub record RowAndPoint (l : List ℤ) (t : List ℕ) (r : ℕ) (p : Point) : Type 0 where
  pub row : Row l t r
  pub p_in : PointWithin farthest p

-- a row with its normal, and two points
pub record FaceAndPoints (l : List ℤ) (t : List ℕ) (r : ℕ) (m u v : Point) : Type 0 where
  pub face : FaceRow l t r m
  pub u_in : PointWithin farthest u
  pub v_in : PointWithin farthest v

-- two rows, each with its normal, and a corner; and two corners
pub record FacesAndPoint (l : List ℤ) (t : List ℕ) (f : ℕ) (mf : Point) (g : ℕ) (mg u : Point) : Type 0 where
  pub faces : TwoFaces l t f mf g mg
  pub u_in : PointWithin farthest u

pub record FacesAndPoints (l : List ℤ) (t : List ℕ) (f : ℕ) (mf : Point) (g : ℕ) (mg u v : Point) : Type 0 where
  pub faces : TwoFaces l t f mf g mg
  pub u_in : PointWithin farthest u
  pub v_in : PointWithin farthest v

-- What the functions of this crate ask of a polygon's side and of a point p / d.
use Rattle.std.specs.Prelude.{List, ℕ, ℤ}
use Rattle.exact.specs.Size.{Within}
use Rattle.paper.specs.Numbers.{farthest}
use Rattle.paper.specs.declared.Point.{Point}
use Rattle.paper.specs.declared.Flat.{Flat}
use Rattle.polygon.specs.Sizes.{PointWithin, FlatWithin, most_scale, most_scaled}
use Rattle.polygon.specs.Rings.{FaceRow}

-- an end of a side, and d
pub record EndWithin (a : Flat) (d : ℤ) : Type 0 where
  pub a_in : FlatWithin farthest a
  pub d_in : Within most_scale d

-- a side from a to b, and d
pub record SideWithin (a b : Flat) (d : ℤ) : Type 0 where
  pub a_in : FlatWithin farthest a
  pub b_in : FlatWithin farthest b
  pub d_in : Within most_scale d

-- such a side, and p
pub record TurnWithin (a b p : Flat) (d : ℤ) : Type 0 where
  pub side : SideWithin a b d
  pub p_in : FlatWithin most_scaled p

-- a row with its normal, and p / d
pub record FaceAndPoint (l : List ℤ) (t : List ℕ) (r : ℕ) (m p : Point) (d : ℤ) : Type 0 where
  pub face : FaceRow l t r m
  pub p_in : PointWithin most_scaled p
  pub d_in : Within most_scale d

-- What the functions of this crate ask of points and directions.
use Rattle.std.specs.Prelude.{◌≡◌, Bool, true}
use Rattle.paper.specs.Numbers.{farthest}
use Rattle.paper.specs.declared.Point.{Point}
use Rattle.polygon.specs.Sizes.{PointWithin, most_step, most_normal}
use Rattle.fast_meets.specs.Theorems.{Longs, EndShared}

-- the segments from a to b and from c to d
pub record TwoSegments (a b c d : Point) : Type 0 where
  pub a_in : PointWithin farthest a
  pub b_in : PointWithin farthest b
  pub c_in : PointWithin farthest c
  pub d_in : PointWithin farthest d

-- neither is a point, and they have a common end where `joined` says so
pub record SegmentPair (a b c d : Point) (joined : Bool) : Type 0 where
  pub segments : TwoSegments a b c d
  pub long : Longs a b c d
  pub shared : joined ≡ true → EndShared a b c d

-- three steps, and the cross product of two
pub record AcrossWithin (p q r n : Point) : Type 0 where
  pub p_in : PointWithin most_step p
  pub q_in : PointWithin most_step q
  pub r_in : PointWithin most_step r
  pub n_in : PointWithin most_normal n

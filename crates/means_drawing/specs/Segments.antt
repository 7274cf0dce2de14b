-- Common points of segments, in whole numbers.
-- A point of a segment is at a place, which is place / scale of the way from the segment's first end to its second.
use Rattle.std.specs.Prelude.{◌≡◌, ℤ, pos, ◌≤ℤ◌, ◌<ℤ◌}
use Rattle.paper.specs.Points.{plus, minus, times}
use Rattle.paper.specs.declared.Point.{Point}

-- a place between the ends: 0 < place / scale < 1
pub record Inner : Type 0 where
  pub scale : ℤ
  pub place : ℤ
  pub after : pos 0 <ℤ place
  pub before : place <ℤ scale

-- a place that may be an end: 0 ≤ place / scale ≤ 1
pub record Whole : Type 0 where
  pub scale : ℤ
  pub place : ℤ
  pub some : pos 0 <ℤ scale
  pub least : pos 0 ≤ℤ place
  pub most : place ≤ℤ scale

-- the point at place / scale of the way from a to b, times scale
abbrev pub along : ℤ → ℤ → Point → Point → Point
along scale place a b = plus (times scale a) (times place (minus b a))

-- p is a point of the segment from a to b without its ends
pub record Between (a b p : Point) : Type 0 where
  pub here : Inner
  pub is : times here.scale p ≡ along here.scale here.place a b

-- the segment from a to b without its ends and the one from c to d with its ends have a point in common
pub record Common (a b c d : Point) : Type 0 where
  pub here : Inner
  pub there : Whole
  pub is : times there.scale (along here.scale here.place a b) ≡ times here.scale (along there.scale there.place c d)

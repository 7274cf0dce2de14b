-- A row of the table as a ring of points.
use mathlib.Core.Path.{◌≡◌, ap, ◌∙◌}
use mathlib.Core.List.{List}
use Prim.Native.Nat.{ℕ, ◌+◌, ◌*◌, ◌≤◌, ◌<◌}
use native.Mathlib.Omega.{arith}
use lib.ListN.{length, drop, get_or, length-drop, length-map}
use lib.Seq.{get_or-take, get_or-drop, length-take-le}
use lib.IntN.{ℤ, pos}
use Rattle.exact.specs.Size.{Within}
use Rattle.lists.specs.Around.{wrap, around}
use Rattle.lists.proofs.Places.{map_at, map_each}
use Rattle.paper.specs.Numbers.{farthest, least_corners, most_corners, row_bytes}
use Rattle.paper.specs.Points.{origin}
use Rattle.paper.specs.declared.Point.{Point}
use Rattle.polygon.specs.Sizes.{PointWithin}
use Rattle.polygon.specs.Rings.{point_of, corner_count, vertex_in, loop_in, ring, corner_of, Row, CornerIn}
use Rattle.polygon.proofs.Sizes.{origin_small, small_eq}

pub point_small : (l : List ℤ) → ((k : ℕ) → Within farthest (get_or l k (pos 0))) → (v : ℕ) → PointWithin farthest (point_of l v)
unfolding point_of
point_small l h v = record { x_in = h (3 * v); y_in = h (3 * v + 1); z_in = h (3 * v + 2) }

module _ {l : List ℤ} {t : List ℕ} {r : ℕ} (g : Row l t r) where
  pub loop_length : length (loop_in t r) ≡ corner_count t r
  unfolding loop_in
  loop_length =
      let h = g.room in
      let m = g.most in
      length-take-le (corner_count t r) (drop (row_bytes * r + 1) t) (omega (arith, length-drop (row_bytes * r + 1) t))

  pub loop_at_lem : (k : ℕ) → k < corner_count t r → get_or (loop_in t r) k 0 ≡ vertex_in t r k
  unfolding loop_in
  loop_at_lem k h = get_or-take (corner_count t r) (drop (row_bytes * r + 1) t) k 0 h ∙ get_or-drop (row_bytes * r + 1) t k 0

  pub ring_length : length (ring l t r) ≡ corner_count t r
  unfolding ring
  ring_length = length-map (loop_in t r) (point_of l) ∙ loop_length

  pub ring-at : (k : ℕ) → k < corner_count t r → get_or (ring l t r) k origin ≡ point_of l (vertex_in t r k)
  unfolding ring
  ring-at k h = map_at (point_of l) (loop_in t r) k 0 origin (omega (arith, loop_length)) ∙ ap (point_of l) (loop_at_lem k h)

  pub ring_most : length (ring l t r) ≤ most_corners
  ring_most = let m = g.most in omega (arith, ring_length)

  pub ring_least : least_corners ≤ length (ring l t r)
  ring_least = let m = g.least in omega (arith, ring_length)

  pub corner_small : (j : ℕ) → PointWithin farthest (corner_of (ring l t r) j)
  unfolding ring around
  corner_small j =
      let near = point_small l g.near in
      map_each (point_of l) (PointWithin farthest) near (loop_in t r) (wrap (length (ring l t r)) j) (origin_small farthest)

  -- a point that is a corner
  pub corner-near : {p : Point} (j : ℕ) → p ≡ corner_of (ring l t r) j → PointWithin farthest p
  corner-near j e = small_eq e (corner_small j)

  -- with three corners the two behind the last are not twice round
  pub corner_in : (j : ℕ) → j ≤ length (ring l t r) + 2 → CornerIn l t r j
  corner_in j h = record { row = g; twice = omega (arith, ring_least) }

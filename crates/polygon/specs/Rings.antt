-- What the code holds as what the definitions speak of: a vertex in the list of coordinates, a row of the loop table as a polygon.
use Rattle.std.specs.Prelude.{ℕ, ◌+◌, ◌*◌, ◌≤◌, ◌<◌, ◌≡◌, List, map, length, get_or, take, drop, ℤ, pos}
use Rattle.exact.specs.Size.{Within}
use Rattle.lists.specs.Around.{around}
use Rattle.paper.specs.Numbers.{farthest, least_corners, most_corners, row_bytes}
use Rattle.paper.specs.Points.{pt, origin}
use Rattle.paper.specs.Polygon.{Polygon, normal}
use Rattle.paper.specs.declared.Point.{Point}

-- vertex v of a list of coordinates, three a vertex
unfoldable pub point_of : List ℤ → ℕ → Point
point_of l v = pt (get_or l (3 * v) (pos 0)) (get_or l (3 * v + 1) (pos 0)) (get_or l (3 * v + 2) (pos 0))

-- a row of a table: its corner count, its corners, and fill
abbrev pub corner_count : List ℕ → ℕ → ℕ
corner_count t r = get_or t (row_bytes * r) 0

abbrev pub vertex_in : List ℕ → ℕ → ℕ → ℕ
vertex_in t r k = get_or t (row_bytes * r + 1 + k) 0

unfoldable pub loop_in : List ℕ → ℕ → List ℕ
loop_in t r = take (corner_count t r) (drop (row_bytes * r + 1) t)

unfoldable pub ring : List ℤ → List ℕ → ℕ → Polygon
unfolding loop_in point_of
ring l t r = map (point_of l) (loop_in t r)

-- what is said of two rows of a table
abbrev pub of_rows : {A : Type 0} → (Polygon → Polygon → A) → List ℤ → List ℕ → ℕ → ℕ → A
of_rows say l t f g = say (ring l t f) (ring l t g)

-- corner j, counted on past the last
abbrev pub corner_of : Polygon → ℕ → Point
corner_of g j = around g j origin

-- row r is a loop of 3 to 12 vertices that the list has
pub record Row (l : List ℤ) (t : List ℕ) (r : ℕ) : Type 0 where
  pub near : (k : ℕ) → Within farthest (get_or l k (pos 0))
  pub room : row_bytes * r + row_bytes ≤ length t
  pub least : least_corners ≤ corner_count t r
  pub most : corner_count t r ≤ most_corners
  pub known : (k : ℕ) → k < corner_count t r → 3 * vertex_in t r k + 2 < length l

-- such a row, and j once round it or twice
pub record CornerIn (l : List ℤ) (t : List ℕ) (r j : ℕ) : Type 0 where
  pub row : Row l t r
  pub twice : j < 2 * length (ring l t r)

-- such a row with its normal, which is made once
pub record FaceRow (l : List ℤ) (t : List ℕ) (r : ℕ) (m : Point) : Type 0 where
  pub row : Row l t r
  pub across : m ≡ normal (ring l t r)

-- a row with its normal, and a row to hold against it
pub record FaceAndRow (l : List ℤ) (t : List ℕ) (g : ℕ) (m : Point) (h : ℕ) : Type 0 where
  pub face : FaceRow l t g m
  pub row : Row l t h

-- two rows, each with its normal
pub record TwoFaces (l : List ℤ) (t : List ℕ) (f : ℕ) (mf : Point) (g : ℕ) (mg : Point) : Type 0 where
  pub f_face : FaceRow l t f mf
  pub g_face : FaceRow l t g mg

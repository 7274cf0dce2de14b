-- A path in one line: what its next vertex makes of it, and what is found from it.
use Rattle.std.specs.Prelude.{Bool, true, false, List, map, ◌≡◌, ℕ, ◌+◌, ◌-◌, ◌≤◌, ◌<◌, ℤ, get_or, take}
use Rattle.lists.specs.Lists.{upto}
use Rattle.sets.specs.Sets.{Is}
use Rattle.sets.specs.declared.Set.{Set}
use Rattle.paper.specs.Numbers.{farthest, most_corners, most_vertices}
use Rattle.paper.specs.Points.{minus, dot, cross, is_zero, is_origin}
use Rattle.paper.specs.Drawing.{Wire, points_of}
use Rattle.paper.specs.declared.Point.{Point}
use Rattle.paper_laws.specs.InRange.{Points}
use Rattle.polygon.specs.Sizes.{PointWithin, most_normal}
use Rattle.polygon.specs.Rings.{point_of}
use Rattle.fast_search.specs.Rows.{some_of}
use Rattle.fast_search.specs.Search.{line_step}
use Rattle.fast_search.specs.Bare.{bare_line}
use Rattle.loop_search.specs.declared.planes.Turn.{Turn}
use Rattle.loop_search.specs.Rooms.{Rooms, Sized, Adds}
use Rattle.loop_search.specs.Paths.{PathAt, VerticesBelow, NearWords}

-- ---- the plane through s across m

abbrev pub level_in : List ℤ → Point → Point → ℕ → Bool
level_in xyz s m w = is_zero (dot m (minus (point_of xyz w) s))

pub record PlaneIn (xyz : List ℤ) (v : ℕ) (s m : Point) : Type 0 where
  pub points : Points xyz v
  pub few : v ≤ most_vertices
  pub s_in : PointWithin farthest s
  pub m_in : PointWithin most_normal m

-- and vertices to be asked
pub record PlaneAndSet (xyz : List ℤ) (s m : Point) (set : Set) : Type 0 where
  pub vertices : ℕ
  pub plane : PlaneIn xyz vertices s m
  pub below : VerticesBelow set vertices

-- ---- the next vertex w of a path in one line

abbrev pub turn_in : List ℤ → List ℕ → ℕ → Point
turn_in xyz path w =
    let s = point_of xyz (get_or path 0 0) in
    cross (minus (point_of xyz (get_or path 1 0)) s) (minus (point_of xyz w) s)

-- a vertex is in the plane that w fixes
abbrev pub in_fixed : List ℤ → List ℕ → ℕ → ℕ → Bool
in_fixed xyz path w = level_in xyz (point_of xyz (get_or path 0 0)) (turn_in xyz path w)

-- the path stays in line; w fixes a plane that has none of `ends`; it fixes one that has some, and these are the vertices in it
abbrev pub TurnIs : List ℤ → ℕ → List ℕ → ℕ → List Bool → Turn → Type 0
TurnIs xyz v path w ends Turn.Line = is_origin (turn_in xyz path w) ≡ true
TurnIs xyz v path w ends Turn.Dead = (is_origin (turn_in xyz path w) ≡ false) × (some_of (in_fixed xyz path w) 0 ends ≡ false)
TurnIs xyz v path w ends (Turn.Plane plane) =
    (is_origin (turn_in xyz path w) ≡ false) × (some_of (in_fixed xyz path w) 0 ends ≡ true) × Is plane (map (in_fixed xyz path w) (upto v))

-- a path's first two vertices, the next one, and vertices where it may end
pub record TurnAt (xyz : List ℤ) (v : ℕ) (path : List ℕ) (w : ℕ) (ends : Set) : Type 0 where
  pub points : Points xyz v
  pub few : v ≤ most_vertices
  pub first_in : get_or path 0 0 < v
  pub second_in : get_or path 1 0 < v
  pub w_in : w < v
  pub ends_below : VerticesBelow ends v

-- ---- further

-- the rooms, a path of two vertices or more, what it may still use, and where it may end
pub record OnLineAt (r : Rooms) (xyz : List ℤ) (v : ℕ) (path : List ℕ) (len : ℕ) (free closing : Set) : Type 0 where
  pub sized : Sized r
  pub points : Points xyz v
  pub few : v ≤ most_vertices
  pub path_at : PathAt path len v
  pub two : 2 ≤ len
  pub free_below : VerticesBelow free v
  pub closing_below : VerticesBelow closing v

-- the same, with one vertex more on the path
pub record StepAt (r : Rooms) (xyz : List ℤ) (v : ℕ) (path : List ℕ) (len : ℕ) (free closing : Set) : Type 0 where
  pub sized : Sized r
  pub points : Points xyz v
  pub few : v ≤ most_vertices
  pub path_at : PathAt path (len + 1) v
  pub two : 2 ≤ len
  pub free_below : VerticesBelow free v
  pub closing_below : VerticesBelow closing v

-- the drawing that the lists are of
pub record DrawnWith (d : Wire) (xyz : List ℤ) (words : List ℕ) : Type 0 where
  pub vertices_are : d.vertices ≡ points_of xyz
  pub near_are : NearWords d words

-- all loops that begin with the path and leave its line were taken in
pub record OnLine (xyz : List ℤ) (words path : List ℕ) (len : ℕ) (free closing : Set) (r r' : Rooms) (path' : List ℕ) : Type 0 where
  pub sized : Sized r'
  pub path_is : path' ≡ path
  pub adds : (d : Wire) → DrawnWith d xyz words → (fr cl : List Bool) → Is free fr → Is closing cl
      → Adds r r' (bare_line d (most_corners - len) (take len path) fr cl)

-- all that go on from the first len vertices by way of the next one, which the path has already
pub record Stepped (xyz : List ℤ) (words path : List ℕ) (len : ℕ) (free closing : Set) (r r' : Rooms) (path' : List ℕ) : Type 0 where
  pub sized : Sized r'
  pub path_is : path' ≡ path
  pub adds : (d : Wire) → DrawnWith d xyz words → (fr cl : List Bool) → Is free fr → Is closing cl
      → Adds r r' (line_step d (λ q f. bare_line d (most_corners - (len + 1)) q f cl) (most_corners - (len + 1)) (take len path) fr cl (get_or path len 0))

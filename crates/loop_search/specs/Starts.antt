-- The starts of the search, and the whole of it.
use Rattle.std.specs.Prelude.{List, ◌≡◌, ℕ, ◌≤◌, ◌<◌, ℤ, replicate}
use Rattle.std.proofs.Math.Option.{none}
use Rattle.paper.specs.Numbers.{most_corners, fill_byte, most_vertices}
use Rattle.paper.specs.Drawing.{Wire, points_of, same_place, edge_meets}
use Rattle.paper_laws.specs.InRange.{Points}
use Rattle.drawing_links.specs.Neighbours.{neighbour_words}
use Rattle.fast_search.specs.Bare.{bare_seconds}
use Rattle.loop_search.specs.Rooms.{Rooms, rooms, Sized, Adds}
use Rattle.loop_search.specs.Lines.{DrawnWith}

-- a path before its first vertex
abbrev pub no_path : List ℕ
no_path = replicate most_corners fill_byte

-- the rooms, an empty path, and the vertex that it is to start at
pub record StartAt (r : Rooms) (xyz : List ℤ) (v : ℕ) (path : List ℕ) (s : ℕ) : Type 0 where
  pub sized : Sized r
  pub points : Points xyz v
  pub few : v ≤ most_vertices
  pub empty : path ≡ no_path
  pub s_in : s < v

-- all loops that start at s were taken in
pub record Started (xyz : List ℤ) (words : List ℕ) (s : ℕ) (r r' : Rooms) (path path' : List ℕ) : Type 0 where
  pub sized : Sized r'
  pub path_is : path' ≡ path
  pub adds : (d : Wire) → DrawnWith d xyz words → Adds r r' (bare_seconds d s)

-- ---- the whole search

-- the points of v vertices, and the rooms
pub record SearchAt (xyz : List ℤ) (v : ℕ) (table planes : List ℕ) : Type 0 where
  pub points : Points xyz v
  pub few : v ≤ most_vertices
  pub sized : Sized (rooms table planes 0)

-- the drawing that the lists are of; no two vertices are at one point, and no edge meets a vertex or an edge
pub record ClearDrawing (d : Wire) (xyz : List ℤ) (v : ℕ) (words : List ℕ) : Type 0 where
  pub vertices_are : d.vertices ≡ points_of xyz
  pub words_are : words ≡ neighbour_words d.edges v
  pub places : same_place d ≡ none
  pub meets : edge_meets d ≡ none

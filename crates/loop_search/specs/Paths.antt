-- A path of the search, the vertices that it may still use, and what is found from it.
use Rattle.std.specs.Prelude.{Bool, List, [], ◌∷◌, ◌≡◌, ℕ, ◌+◌, ◌*◌, ◌-◌, ◌≤◌, ◌<◌, length, get_or, take}
use Rattle.sets.specs.Word.{both}
use Rattle.sets.specs.Sets.{Is, mask_at}
use Rattle.sets.specs.declared.Set.{Set}
use Rattle.paper.specs.Numbers.{most_vertices, most_corners, most_loops, row_bytes, fill_byte}
use Rattle.paper.specs.Drawing.{Wire}
use Rattle.paper.specs.Loops.{final}
use Rattle.fast_search.specs.Search.{own, near, in_plane}
use Rattle.loop_search.specs.Rooms.{Rooms, Sized, Adds}

-- a path of len vertices below n; the rest is fill
pub record PathAt (path : List ℕ) (len n : ℕ) : Type 0 where
  pub long : length path ≡ most_corners
  pub some : 1 ≤ len
  pub most : len ≤ most_corners
  pub low : (i : ℕ) → i < len → get_or path i 0 < n
  pub fill : (i : ℕ) → len ≤ i → i < most_corners → get_or path i 0 ≡ fill_byte

-- x stands for vertices below n
pub record VerticesBelow (x : Set) (n : ℕ) : Type 0 where
  pub digits : List Bool
  pub is : Is x digits
  pub few : length digits ≤ n

-- the words of neighbours
abbrev pub NearWords : Wire → List ℕ → Type 0
NearWords d words = (u : ℕ) → u < most_vertices → Is (mask_at words u) (near d u)

-- ---- rows

-- a row of the table, and the path that is written to it
pub record RowAt (table : List ℕ) (at : ℕ) (path : List ℕ) (len : ℕ) : Type 0 where
  pub table_long : length table ≡ row_bytes * most_loops
  pub roomy : at + row_bytes ≤ row_bytes * most_loops
  pub path_at : PathAt path len most_vertices

-- the rooms and a path
pub record RoomsAndPath (r : Rooms) (path : List ℕ) (len : ℕ) : Type 0 where
  pub sized : Sized r
  pub path_at : PathAt path len most_vertices

-- the path was taken in, with its plane
pub record Taken (r r' : Rooms) (path : List ℕ) (len : ℕ) (plane : Set) : Type 0 where
  pub sized : Sized r'
  pub adds : (pl : List Bool) → Is plane pl → Adds r r' (record { loop = take len path; plane = pl } ∷ [])

-- it was, where it may end at its last vertex
pub record Ended (r r' : Rooms) (path : List ℕ) (len : ℕ) (closing plane : Set) : Type 0 where
  pub sized : Sized r'
  pub adds : (cl pl : List Bool) → Is closing cl → Is plane pl → Adds r r' (own cl (take len path) pl)

-- ---- further into a path

-- the free neighbours of the path's last vertex
pub record Onward (words path : List ℕ) (len : ℕ) (free r : Set) : Type 0 where
  pub below : (n : ℕ) → VerticesBelow free n → VerticesBelow r n
  pub same : (d : Wire) → NearWords d words → (fr : List Bool) → Is free fr → Is r (both (near d (final (take len path))) fr)

-- the rooms, a path, and the vertices that it may still use
pub record OnPath (r : Rooms) (path : List ℕ) (len : ℕ) (free : Set) : Type 0 where
  pub sized : Sized r
  pub path_at : PathAt path len most_vertices
  pub free_below : VerticesBelow free most_vertices

-- all loops that begin with the path, whose plane is fixed, were taken in, and the path is as it was
pub record PlaneSearched (words path : List ℕ) (len : ℕ) (free closing plane : Set) (r r' : Rooms) (path' : List ℕ) : Type 0 where
  pub sized : Sized r'
  pub path_is : path' ≡ path
  pub adds : (d : Wire) → NearWords d words → (fr cl pl : List Bool) → Is free fr → Is closing cl → Is plane pl
      → Adds r r' (in_plane d (most_corners - len) (take len path) fr cl pl)

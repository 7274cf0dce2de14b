-- What the search writes: a row and a plane for each loop, and how many it met.
use Rattle.std.specs.Prelude.{List, [], ◌∷◌, ◌++◌, ◌≡◌, ℕ, suc, ◌*◌, ◌≤◌, ◌<◌, min, length, get_or, take}
use Rattle.lists.specs.After.{after}
use Rattle.sets.specs.Word.{word}
use Rattle.paper.specs.Numbers.{most_corners, most_loops, row_bytes}
use Rattle.paper.specs.Drawing.{Wire}
use Rattle.paper.specs.Loops.{row, loops}
use Rattle.loop_table.specs.Tables.{rows_after, words_after}
use Rattle.fast_search.specs.Search.{InItsPlane, plane_of}

-- the table, the words of planes, and the count: up to 128, and 129 for more
pub record Rooms : Type 0 where
  pub table : List ℕ
  pub planes : List ℕ
  pub count : ℕ

abbrev pub rooms : List ℕ → List ℕ → ℕ → Rooms
rooms table planes count = record { table = table; planes = planes; count = count }

pub record Sized (r : Rooms) : Type 0 where
  pub table_long : length r.table ≡ row_bytes * most_loops
  pub planes_long : length r.planes ≡ most_loops
  pub most : r.count ≤ suc most_loops

-- what is written of a loop
abbrev pub loop_row : InItsPlane → List ℕ
loop_row f = row f.loop

abbrev pub plane_word : InItsPlane → List ℕ
plane_word f = word f.plane ∷ []

abbrev pub nowhere : InItsPlane
nowhere = record { loop = []; plane = [] }

-- each loop that is held has a row's number of corners
abbrev pub Short : List InItsPlane → Type 0
Short ls = (i : ℕ) → i < length ls → i < most_loops → length (get_or ls i nowhere).loop ≤ most_corners

-- r₀ has become r once the loops ls were met, the first 128 of which are held
pub record HoldsLoops (r₀ r : Rooms) (ls : List InItsPlane) : Type 0 where
  pub short : Short ls
  pub table_is : r.table ≡ after loop_row row_bytes (take most_loops ls) r₀.table
  pub planes_is : r.planes ≡ after plane_word 1 (take most_loops ls) r₀.planes
  pub count_is : r.count ≡ min (suc most_loops) (length ls)

-- r has become r' once further loops were met
abbrev pub Adds : Rooms → Rooms → List InItsPlane → Type 0
Adds r r' more = (r₀ : Rooms) → Sized r₀ → (ls : List InItsPlane) → HoldsLoops r₀ r ls → HoldsLoops r₀ r' (ls ++ more)

-- all the loops of a drawing, cut as documented: the rooms at exit
pub record Found (d : Wire) (table planes table' planes' : List ℕ) (count : ℕ) : Type 0 where
  pub table_is : table' ≡ rows_after (take most_loops (loops d)) table
  pub planes_is : planes' ≡ words_after (plane_of d) (take most_loops (loops d)) planes
  pub count_is : count ≡ min (suc most_loops) (length (loops d))

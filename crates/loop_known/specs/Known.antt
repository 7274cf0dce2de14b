-- The loops of a drawing that passed 3 to 14, with what is known of them.
use Rattle.std.specs.Prelude.{List, ◌≡◌, ℕ, suc, ◌*◌, ◌/◌, ◌≤◌, min, ℤ, length}
use Rattle.paper.specs.Numbers.{most_loops, row_bytes}
use Rattle.paper.specs.Drawing.{wire, edges_of}
use Rattle.paper.specs.Loops.{loops}
use Rattle.drawing_links.specs.Neighbours.{neighbour_words}
use Rattle.loop_table.specs.Passed.{Passed}
use Rattle.loop_words.specs.Numbered.{EdgesNumbered}
use Rattle.loop_cover.specs.Known.{Known}

-- the drawing's second list, by the neighbour words and the numbers of its edges
pub record DrawnBy (xyz : List ℤ) (ends near number : List ℕ) : Type 0 where
  pub passed : Passed xyz ends
  pub near_are : near ≡ neighbour_words (edges_of ends) (length xyz / 3)
  pub numbered : EdgesNumbered number (edges_of ends)

-- rooms of their sizes
pub record RoomyTables (table planes corners sides : List ℕ) : Type 0 where
  pub table_long : length table ≡ row_bytes * most_loops
  pub planes_long : length planes ≡ most_loops
  pub corners_long : length corners ≡ most_loops
  pub sides_long : length sides ≡ most_loops

-- there is one, and there are the rooms
pub record LoopsAt (xyz : List ℤ) (near number table planes corners sides : List ℕ) : Type 0 where
  pub ends : List ℕ
  pub drawn : DrawnBy xyz ends near number
  pub roomy : RoomyTables table planes corners sides

-- how many there are; and where they all are held, what is known of them
pub record LoopsKnown (xyz : List ℤ) (ends : List ℕ) (r : ℕ) (table planes corners sides : List ℕ) : Type 0 where
  pub count : r ≡ min (suc most_loops) (length (loops (wire xyz ends)))
  pub roomy : RoomyTables table planes corners sides
  pub known : r ≤ most_loops → Known xyz ends table r corners sides planes

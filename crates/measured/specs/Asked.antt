-- A drawing that passed 3 to 14, its neighbour words, and the rooms of its loops.
use Rattle.std.specs.Prelude.{List, ◌≡◌, ℕ, ◌/◌, ℤ, length}
use Rattle.paper.specs.Drawing.{edges_of}
use Rattle.drawing_links.specs.Neighbours.{neighbour_words}
use Rattle.loop_table.specs.Passed.{Passed}
use Rattle.loop_known.specs.Known.{RoomyTables}

pub record Loops (xyz : List ℤ) (ends near table planes corners sides : List ℕ) : Type 0 where
  pub passed : Passed xyz ends
  pub near_are : near ≡ neighbour_words (edges_of ends) (length xyz / 3)
  pub roomy : RoomyTables table planes corners sides

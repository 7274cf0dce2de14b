-- The candidates of a drawing that passed 3 to 14.
use Rattle.std.specs.Prelude.{List, ◌≡◌, ℕ, suc, ◌≤◌, min, ℤ, length}
use Rattle.paper.specs.Numbers.{most_loops, most_candidates, face_room}
use Rattle.paper.specs.Drawing.{wire}
use Rattle.paper.specs.Loops.{loops}
use Rattle.loop_known.specs.Known.{DrawnBy}
use Rattle.candidates.specs.Keeps.{Kept}
use Rattle.walk_input.specs.declared.rows.Counts.{Counts}

-- it, and room for 64 candidates
pub record RowsAt (xyz : List ℤ) (ends near number rows corners sides : List ℕ) : Type 0 where
  pub drawn : DrawnBy xyz ends near number
  pub row_room : length rows ≡ face_room
  pub corner_room : length corners ≡ most_candidates
  pub side_room : length sides ≡ most_candidates

-- how many loops there are; and of no more than 128, the candidates
pub record RowsFound (xyz : List ℤ) (ends : List ℕ) (r : Counts) (rows₀ rows corners₀ corners sides₀ sides : List ℕ) : Type 0 where
  pub loops_are : r.loops ≡ min (suc most_loops) (length (loops (wire xyz ends)))
  pub kept : r.loops ≤ most_loops → Kept (wire xyz ends) r.candidates rows₀ rows corners₀ corners sides₀ sides

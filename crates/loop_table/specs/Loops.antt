-- Loops of a drawing, as a table holds them.
use Rattle.std.specs.Prelude.{List, ℕ, ◌≤◌, ◌<◌, length}
use Rattle.paper.specs.Numbers.{most_corners}
use Rattle.paper.specs.Drawing.{Wire}
use Rattle.paper.specs.Loops.{Loop, loop_at}
use Rattle.fast_tables.specs.Paths.{Path}

-- closed paths of the drawing, each of at most 12 corners
pub record LoopsOf (d : Wire) (ls : List Loop) : Type 0 where
  pub path : (k : ℕ) → k < length ls → Path d (loop_at ls k)
  pub short : (k : ℕ) → k < length ls → length (loop_at ls k) ≤ most_corners

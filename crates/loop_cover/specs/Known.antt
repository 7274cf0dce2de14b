-- What is known of the loops of a drawing that passed 3 to 14.
use Rattle.std.specs.Prelude.{Bool, not, ◌&&◌, List, ◌≡◌, ℕ, ◌≤◌, ◌<◌, eqb, ℤ, length}
use Rattle.sets.specs.Word.{count, less}
use Rattle.sets.specs.Sets.{Is, mask_at}
use Rattle.sets.specs.declared.Set.{Set}
use Rattle.paper.specs.Numbers.{most_loops}
use Rattle.paper.specs.Drawing.{wire}
use Rattle.paper.specs.Loops.{loops}
use Rattle.fast_search.specs.Search.{plane_of}
use Rattle.fast_tables.specs.Hits.{corner_mask, side_mask}
use Rattle.loop_table.specs.Passed.{Passed}
use Rattle.loop_table.specs.Tables.{HoldsRows, HoldsWords}

-- their rows, and the words of their corners, their sides and the vertices in their planes
pub record Known (xyz : List ℤ) (ends table : List ℕ) (n : ℕ) (corners sides planes : List ℕ) : Type 0 where
  pub passed : Passed xyz ends
  pub count : n ≡ length (loops (wire xyz ends))
  pub most : n ≤ most_loops
  pub rows : HoldsRows table (loops (wire xyz ends))
  pub corners_are : HoldsWords (corner_mask (wire xyz ends)) corners (loops (wire xyz ends))
  pub sides_are : HoldsWords (side_mask (wire xyz ends)) sides (loops (wire xyz ends))
  pub planes_are : HoldsWords (plane_of (wire xyz ends)) planes (loops (wire xyz ends))

-- and one of them
pub record KnownLoop (xyz : List ℤ) (ends table : List ℕ) (n : ℕ) (corners sides planes : List ℕ) (k : ℕ) : Type 0 where
  pub loops_known : Known xyz ends table n corners sides planes
  pub there : k < n

-- loop j is another than k, and its corners are in the plane
abbrev pub FitsPlane : List ℕ → Set → ℕ → ℕ → Bool → Type 0
FitsPlane corners plane k j r =
    (a b : List Bool) → Is (mask_at corners j) a → Is plane b → r ≡ (not (eqb k j) && eqb (count (less a b)) 0)

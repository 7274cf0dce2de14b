-- The edge of the next assumption, and the undecided candidates on it.
use Rattle.std.specs.Prelude.{Bool, List, ◌≡◌, ℕ, ◌≤◌, ◌<◌, length}
use Rattle.sets.specs.Word.{first}
use Rattle.sets.specs.Kinds.{Has}
use Rattle.sets.specs.Sets.{wides, Wide}
use Rattle.paper.specs.Numbers.{most_edges}
use Rattle.paper.specs.Walk.{Status}
use Rattle.means_walk.specs.Lowest.{opens}
use Rattle.fast_sweeps.specs.Worklist.{open_from, lowest_on}
use Rattle.walk_tables.specs.Words.{Masks}
use Rattle.walk_state.specs.declared.Opening.{Opening}

pub record From (m from : ℕ) : Type 0 where
  pub few : m ≤ most_edges
  pub within : from ≤ m

-- the edge is the lowest that has an undecided candidate, and the lowest of the set the lowest such candidate on it
pub record Chosen (masks : List (List Bool)) (st : List Status) (from : ℕ) (r : Opening) : Type 0 where
  pub edge_is : r.edge ≡ open_from masks st from
  pub digits : List Bool
  pub free_is : wides.Is r.free digits
  pub lowest_is : first digits ≡ lowest_on masks st r.edge

-- also, where any is undecided there is one to choose, and only undecided ones are
pub record Opened (on : List ℕ) (m : ℕ) (undecided : Wide) (from : ℕ) (r : Opening) : Type 0 where
  pub within : r.edge ≤ m
  pub some : 0 < wides.size undecided → 0 < wides.size r.free
  pub there : (k : ℕ) → Has wides r.free k → Has wides undecided k
  pub same : (masks : List (List Bool)) (st : List Status) → Masks on masks → length masks ≡ m → wides.Is undecided (opens st)
      → Chosen masks st from r

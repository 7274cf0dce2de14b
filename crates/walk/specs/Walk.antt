-- The walk from a branch on, and the whole of it.
use Rattle.std.specs.Prelude.{Bool, List, ◌≡◌, ℕ, ◌≤◌, ◌<◌, ℤ, length}
use Rattle.paper.specs.Numbers.{most_solids, solid_room, most_candidates}
use Rattle.paper.specs.Solids.{Tables}
use Rattle.paper.specs.Walk.{Status, open_count, walk, search}
use Rattle.paper.specs.Conversion.{accepted}
use Rattle.fast_sweeps.specs.Worklist.{Call}
use Rattle.walk_tables.specs.Words.{WalkTables, Lent}
use Rattle.walk_leaf.specs.Tests.{Judging}
use Rattle.walk.specs.Tally.{Roomy, Stored, Follows}
use Rattle.walk.specs.Branch.{BranchIs}
use Rattle.walk.specs.declared.tally.Tally.{Tally}
use Rattle.walk.specs.declared.branch.Branch.{Branch}

pub record Walking (m : ℕ) (sixes : List ℤ) (b : Branch) (x : Tally) (out : List ℕ) : Type 0 where
  pub judging : Judging m sixes
  pub within : b.edge ≤ m
  pub roomy : Roomy x out

-- the tally and the words follow the document's walk from the branch's state on, whatever bounds its depth
pub record Walked (tables : WalkTables) (m : ℕ) (b : Branch) (limit : ℕ) (x : Tally) (out₀ : List ℕ) (r : Tally)
    (out : List ℕ) : Type 0 where
  pub roomy : Roomy r out
  pub same : (n : ℕ) (t : Tables) (st : List Status) (marked : List Bool) (e depth : ℕ) → Lent tables m n t
      → length st ≡ n → BranchIs b st marked e → Call t.masks st marked e → open_count st < depth
      → Follows t (walk depth most_solids (accepted t) limit t.masks st) x out₀ r out

pub record Searching (m : ℕ) (sixes : List ℤ) (n : ℕ) (out : List ℕ) : Type 0 where
  pub judging : Judging m sixes
  pub few : n ≤ most_candidates
  pub whole : length out ≡ solid_room

-- all that the document's walk finds, in the room that was lent
pub record Searched (tables : WalkTables) (m n limit : ℕ) (out₀ : List ℕ) (r : Tally) (out : List ℕ) : Type 0 where
  pub roomy : Roomy r out
  pub same : (t : Tables) → Lent tables m n t → Stored t out₀ r out (search most_solids (accepted t) limit n t.masks)

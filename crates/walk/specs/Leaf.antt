-- A state with nothing undecided.
use Rattle.std.specs.Prelude.{true, List, ◌≡◌, ℕ, ℤ, length}
use Rattle.sets.specs.Sets.{Is}
use Rattle.sets.specs.declared.Set.{Set}
use Rattle.paper.specs.Numbers.{most_solids}
use Rattle.paper.specs.Solids.{Tables}
use Rattle.paper.specs.Walk.{Status, leaf}
use Rattle.paper.specs.Conversion.{takens, accepted}
use Rattle.means_walk.specs.Complete.{exact}
use Rattle.walk_tables.specs.Words.{WalkTables, Lent}
use Rattle.walk_leaf.specs.Tests.{Judging}
use Rattle.walk.specs.Tally.{Roomy, Follows}
use Rattle.walk.specs.declared.tally.Tally.{Tally}

pub record Keeping (m : ℕ) (sixes : List ℤ) (x : Tally) (out : List ℕ) : Type 0 where
  pub judging : Judging m sixes
  pub roomy : Roomy x out

-- "With nothing undecided, test (ii) to (v)": those taken are two on each edge
pub record KeepsSolid (tables : WalkTables) (m : ℕ) (taken : Set) (x : Tally) (out₀ : List ℕ) (r : Tally) (out : List ℕ) : Type 0 where
  pub roomy : Roomy r out
  pub same : (n : ℕ) (t : Tables) (st : List Status) → Lent tables m n t → length st ≡ n → Is taken (takens st)
      → exact t.masks st ≡ true → Follows t (leaf most_solids (accepted t) st) x out₀ r out

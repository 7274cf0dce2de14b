-- The tally and the words stored stand for the document's log of the walk.
use Rattle.std.specs.Prelude.{List, ◌≡◌, ℕ, ◌≤◌, length}
use Rattle.paper.specs.Numbers.{most_solids, solid_room}
use Rattle.paper.specs.Solids.{Tables}
use Rattle.paper.specs.Walk.{Log, assume}
use Rattle.paper.specs.Conversion.{solids_after}
use Rattle.walk.specs.declared.tally.Tally.{Tally}

pub record CountsLog (x : Tally) (log : Log) : Type 0 where
  pub work_is : x.work ≡ log.work
  pub found_is : x.found ≡ length log.found
  pub ended_is : x.ended ≡ log.ended

-- no solid more, and one more assumption where the limit allows it
pub record Assumed (limit : ℕ) (x r : Tally) : Type 0 where
  pub no_more : r.found ≡ x.found
  pub same : (log : Log) → CountsLog x log → CountsLog r (assume limit log)

-- ---- with the words of the solids found, in a room that was lent

-- there is room for the words of all solids found
pub record Roomy (x : Tally) (out : List ℕ) : Type 0 where
  pub few : x.found ≤ most_solids
  pub whole : length out ≡ solid_room

pub record Stored (t : Tables) (lent : List ℕ) (x : Tally) (out : List ℕ) (log : Log) : Type 0 where
  pub counts : CountsLog x log
  pub words_are : out ≡ solids_after t log.found lent

-- what the code does to the tally and the words is what a step does to the log
abbrev pub Follows : Tables → (Log → Log) → Tally → List ℕ → Tally → List ℕ → Type 0
Follows t step x out₀ r out = (log : Log) (lent : List ℕ) → Stored t lent x out₀ log → Stored t lent r out (step log)

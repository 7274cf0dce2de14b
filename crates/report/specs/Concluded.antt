-- What a conversion says of a finished walk, with both rooms at exit.
use Rattle.std.specs.Prelude.{List, ◌≡◌, ℕ, ◌≤◌, length}
use Rattle.paper.specs.Numbers.{most_candidates, face_room, solid_room}
use Rattle.paper.specs.Loops.{Loop}
use Rattle.paper.specs.Solids.{Tables}
use Rattle.paper.specs.Walk.{Log}
use Rattle.paper.specs.Conversion.{reported, concluded}
use Rattle.paper.specs.declared.Conversion.{Conversion}
use Rattle.loop_table.specs.Tables.{HoldsRows}
use Rattle.walk.specs.Tally.{Roomy, Stored}
use Rattle.walk.specs.declared.tally.Tally.{Tally}

pub record Concluding (n : ℕ) (rows : List ℕ) (t : Tally) (out faces solids : List ℕ) : Type 0 where
  pub few : n ≤ most_candidates
  pub roomy : Roomy t out
  pub rows_long : length rows ≡ face_room
  pub faces_fit : face_room ≤ length faces
  pub solids_fit : solid_room ≤ length solids

-- of all candidates whose rows are lent, and of every log of the walk that the tally and the words in `out` stand for
pub record ReportedAs (loops n : ℕ) (rows : List ℕ) (t : Tally) (out faces₀ faces solids₀ solids : List ℕ) (r : Conversion) : Type 0 where
  pub same : (cs : List Loop) (tables : Tables) (log : Log) (lent : List ℕ) → length cs ≡ n → HoldsRows rows cs
      → Stored tables lent t out log
      → reported loops cs tables log.work log.found faces₀ solids₀ ≡ record { answer = r; faces = faces; solids = solids }

pub record Concluded (loops n : ℕ) (rows : List ℕ) (t : Tally) (out faces₀ faces solids₀ solids : List ℕ) (r : Conversion) : Type 0 where
  pub same : (cs : List Loop) (tables : Tables) (log : Log) (lent : List ℕ) → length cs ≡ n → HoldsRows rows cs
      → Stored tables lent t out log
      → concluded loops cs tables log faces₀ solids₀ ≡ record { answer = r; faces = faces; solids = solids }

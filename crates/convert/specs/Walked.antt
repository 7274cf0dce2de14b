-- What the walk of a drawing that passed 3 to 10 comes to, or what refuses it.
use Rattle.std.specs.Prelude.{List, ◌≡◌, ℕ, ◌≤◌, ℤ, length, Ok, Err, Result}
use Rattle.paper.specs.Numbers.{most_candidates, most_solids, face_room, solid_room}
use Rattle.paper.specs.Refusals.{first_of, Fine}
use Rattle.paper.specs.Drawing.{Wire, wire}
use Rattle.paper.specs.Loops.{loops, candidates}
use Rattle.paper.specs.Solids.{Tables, tables_of}
use Rattle.paper.specs.Walk.{Log, search}
use Rattle.paper.specs.Conversion.{accepted}
use Rattle.paper.specs.declared.Refusal.{Refusal}
use Rattle.paper_laws.specs.InRange.{PassedLists}
use Rattle.loop_table.specs.Tables.{rows_after}
use Rattle.walk_input.specs.Tables.{checks_of}
use Rattle.walk_input.specs.declared.rows.Counts.{Counts}
use Rattle.walk.specs.Tally.{Roomy, Stored}
use Rattle.walk.specs.declared.tally.Tally.{Tally}

-- the tables of a drawing's candidates, and the log of their walk
abbrev pub tables_in : Wire → Tables
tables_in d = tables_of d (candidates d)

abbrev pub log_of : Wire → ℕ → Log
log_of d limit = search most_solids (accepted (tables_in d)) limit (length (candidates d)) (tables_in d).masks

-- lists that passed 3 to 10, and rooms of their sizes
pub record WalkedAt (xyz : List ℤ) (ends rows out : List ℕ) : Type 0 where
  pub passed : PassedLists xyz ends
  pub row_room : length rows ≡ face_room
  pub word_room : length out ≡ solid_room

-- none of 11 to 16 applies; the candidates' rows, and what their walk came to
pub record Done (d : Wire) (limit : ℕ) (rows₀ rows out₀ out : List ℕ) (c : Counts) (t : Tally) : Type 0 where
  pub fine : Fine ≡ first_of (checks_of d)
  pub loops_are : c.loops ≡ length (loops d)
  pub candidates_are : c.candidates ≡ length (candidates d)
  pub few : c.candidates ≤ most_candidates
  pub rows_are : rows ≡ rows_after (candidates d) rows₀
  pub roomy : Roomy t out
  pub stored : Stored (tables_in d) out₀ t out (log_of d limit)

abbrev pub WalkedIs : List ℤ → List ℕ → ℕ → List ℕ → List ℕ → List ℕ → List ℕ → Result (Counts × Tally) Refusal → Type 0
WalkedIs xyz ends limit rows₀ rows out₀ out (Err r) = Err r ≡ first_of (checks_of (wire xyz ends))
WalkedIs xyz ends limit rows₀ rows out₀ out (Ok (c, t)) = Done (wire xyz ends) limit rows₀ rows out₀ out c t

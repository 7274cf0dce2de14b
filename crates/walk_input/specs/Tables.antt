-- What a drawing that passed 3 to 10 comes to before the walk: a refusal, 11 to 16, or its candidates with their tables.
use Rattle.std.specs.Prelude.{List, ◌++◌, ◌≡◌, ℕ, ◌≤◌, ◌/◌, ℤ, length, get_or, Ok, Err, Result}
use Rattle.paper.specs.Numbers.{most_candidates, face_room, documented}
use Rattle.paper.specs.Refusals.{Check, first_of, Fine}
use Rattle.paper.specs.Drawing.{Wire, wire, drawing_checks}
use Rattle.paper.specs.Loops.{loops, candidates, loop_checks}
use Rattle.paper.specs.Solids.{tables_of}
use Rattle.paper.specs.declared.Refusal.{Refusal}
use Rattle.paper_laws.specs.InRange.{PassedLists}
use Rattle.loop_table.specs.Tables.{rows_after}
use Rattle.walk_tables.specs.Words.{SmallSixes, WalkTables, Lent}
use Rattle.walk_input.specs.Words.{EmptyRooms}
use Rattle.walk_input.specs.declared.rows.Counts.{Counts}

-- 11 to 16
abbrev pub checks_of : Wire → List Check
checks_of d = drawing_checks d ++ loop_checks documented (loops d) (candidates d)

-- lists that passed 3 to 10, and rooms of their sizes with nothing in them
pub record TablesAt (xyz : List ℤ) (ends rows : List ℕ) (tables : WalkTables) : Type 0 where
  pub passed : PassedLists xyz ends
  pub row_room : length rows ≡ face_room
  pub rooms : EmptyRooms tables
  pub side_room : length tables.sides ≡ most_candidates
  pub no_side : (k : ℕ) → get_or tables.sides k 0 ≡ 0
  pub small : SmallSixes tables.sixes

-- none of 11 to 16 applies; so many loops and candidates, their rows, and the tables
pub record Ready (xyz : List ℤ) (ends rows₀ rows : List ℕ) (tables : WalkTables) (c : Counts) : Type 0 where
  pub fine : Fine ≡ first_of (checks_of (wire xyz ends))
  pub loops_are : c.loops ≡ length (loops (wire xyz ends))
  pub candidates_are : c.candidates ≡ length (candidates (wire xyz ends))
  pub few : c.candidates ≤ most_candidates
  pub rows_are : rows ≡ rows_after (candidates (wire xyz ends)) rows₀
  pub small : SmallSixes tables.sixes
  pub lent : Lent tables (length ends / 2) c.candidates (tables_of (wire xyz ends) (candidates (wire xyz ends)))

abbrev pub TabledIs : List ℤ → List ℕ → List ℕ → List ℕ → WalkTables → Result Counts Refusal → Type 0
TabledIs xyz ends rows₀ rows tables (Err r) = Err r ≡ first_of (checks_of (wire xyz ends))
TabledIs xyz ends rows₀ rows tables (Ok c) = Ready xyz ends rows₀ rows tables c

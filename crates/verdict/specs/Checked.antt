-- What the check says of a drawing behind 3 to 10, and of a face list behind 3 to 16.
use Rattle.std.specs.Prelude.{not, List, ◌∷◌, ◌++◌, ◌≡◌, ℕ, ◌≤◌, ℤ, length}
use Rattle.paper.specs.Numbers.{most_edges, most_candidates, face_room}
use Rattle.paper.specs.Refusals as No
use Rattle.paper.specs.Refusals.{Check, check, offends, first_of, Verdict}
use Rattle.paper.specs.Format.{edition_for}
use Rattle.paper.specs.Drawing.{Wire, wire}
use Rattle.paper.specs.Loops.{Loop, candidates}
use Rattle.paper.specs.Solids.{Tables, tables_of}
use Rattle.paper.specs.FaceList.{faces_in, well_shaped}
use Rattle.paper.specs.Verdict.{list_edition, listed, face_checks, verdict_for}
use Rattle.paper.specs.declared.Format.{Format}
use Rattle.walk_tables.specs.Words.{SmallSixes, WalkTables, Lent}
use Rattle.walk_input.specs.Tables.{checks_of}
use Rattle.verdict_faces.specs.Named.{HoldsTable}

-- ---- a list, of n candidates whose rows and tables are lent

-- 20 to 27, in a drawing of v vertices, whose face lists are of edition f
abbrev pub list_checks : Format → ℕ → List Loop → Tables → List ℕ → List Check
list_checks f v cs t list =
    check No.ShellShape (offends (not (well_shaped f v list)) 0) ∷ face_checks t (length cs) (listed cs (faces_in f list))

pub record ListAt (rows : List ℕ) (n m : ℕ) (sixes : List ℤ) : Type 0 where
  pub loops : List Loop
  pub held : HoldsTable rows n loops
  pub few : n ≤ most_candidates
  pub rows_long : length rows ≡ face_room
  pub edges : m ≤ most_edges
  pub small : SmallSixes sixes

abbrev pub ListChecked : List ℕ → ℕ → List ℕ → ℕ → WalkTables → ℕ → Verdict → Type 0
ListChecked list v rows n tables m r =
    (cs : List Loop) (t : Tables) → HoldsTable rows n cs → Lent tables m n t
    → r ≡ verdict_for (first_of (list_checks (edition_for v m) v cs t list))

-- ---- a drawing that passed 3 to 10

-- 11 to 16, then 20 to 27
abbrev pub rest_checks : Wire → List ℕ → List Check
rest_checks d list = checks_of d ++ list_checks (list_edition d) (length d.vertices) (candidates d) (tables_of d (candidates d)) list

abbrev pub VerdictChecked : List ℤ → List ℕ → List ℕ → Verdict → Type 0
VerdictChecked xyz ends list r = r ≡ verdict_for (first_of (rest_checks (wire xyz ends) list))

-- The customer's demands of what one call returns and leaves in the lists that were lent.
use Rattle.std.specs.Prelude.{◌↔◌, List, ◌++◌, ◌≡◌, ℕ, ◌/◌, ◌≤◌, ◌<◌, Float, ℤ, length, drop, Result, Ok, Err}
use Rattle.std.proofs.Math.Option.{none}
use Rattle.paper.specs.Format.{total, bytes_for, lent_edition, edition_of}
use Rattle.paper.specs.Loops.{Loop}
use Rattle.paper.specs.FaceList.{faces_as, faces_in, faces_of, bits_of, encode_faces, no_faces}
use Rattle.paper.specs.Sheet.{sheet_as, read_sheet, blank, held}
use Rattle.paper.specs.Conversion.{Converted}
use Rattle.paper.specs.Reading.{conversion_says, reading_says, volume}
use Rattle.paper.specs.declared.Format.{Format}
use Rattle.paper.specs.Refusals as No
use Rattle.paper.specs.Refusals.{refuse, ListAccepted, Answer, Reading, Verdict, Written}
use Rattle.paper.specs.declared.Drawing.{Drawing}
use Rattle.paper.specs.declared.FaceRows.{FaceRows}
use Rattle.paper.specs.declared.Conversion.{Conversion}
use Rattle.paper.specs.declared.Conversion.TheVariants as Conversion
use Rattle.paper.specs.declared.Refusal.{Refusal}
use Rattle.means_sheets.specs.FaceLists.{returned}
use Rattle.means_report.specs.Listed.{WalkTree}
use Rattle.means_report.specs.Report.{solid_count}
use Rattle.demands.specs.Input.{Input, lent, sheet, drawing, candidates_of, Passes}
use Rattle.demands.specs.Table.{one, end, rooms_and_limit, forms, drawings, of_conversion, of_written, of_verdict}
use Rattle.demands.specs.Shells.{Shape, GoodList, sent_faces, shells, NoList}
use Rattle.demands.specs.Solid.{NamesOne}
use Rattle.demands.specs.Walk.{Allowed}
use Rattle.demands.specs.Demand1.{WithinLimit}
use Rattle.demands.specs.Demand2.{Demand2}
use Rattle.demands.specs.Demand3.{Report}
use Rattle.demands.specs.Sheets as Sheets

pub record Converts (x : Input) (limit : ℕ) (faces₀ solids₀ : List ℕ) (r : Conversion) (faces solids : List ℕ) : Type 0 where
  -- demand 1: a report, 17, 18 or 19, or the first line of the table that offends, with the lowest place that does; and the rooms are as
  -- they came unless there is a report
  pub within : WithinLimit limit r
  pub first : rooms_and_limit limit faces₀ solids₀ (forms x (drawings (drawing x) end)) (of_conversion r)
  pub kept : solid_count r ≡ 0 → (faces ≡ faces₀) × (solids ≡ solids₀)
  -- demand 2; and a report is of such a drawing
  pub every : Passes x → (t : WalkTree (drawing x) (candidates_of x)) → Allowed limit faces₀ solids₀
      → Demand2 x t limit faces₀ solids₀ (record { answer = r; faces = faces; solids = solids })
  pub passed : 0 < solid_count r → Passes x × Allowed limit faces₀ solids₀
  -- demand 3: each of the solids reported is accepted by the check, and no other body is
  pub reports : 0 < solid_count r → Report x solids₀ (record { answer = r; faces = faces; solids = solids })

-- demand 1: of a conversion's answer a volume is shown exactly where there is one solid, and it is that solid's; otherwise there is 30, or
-- the answer's own number
pub record ReadAs (a : Conversion) (r : Reading) : Type 0 where
  pub one_solid : (v : Float)
      → (r ≡ Ok v) ↔ ((l c work six : ℕ) × (a ≡ Conversion.One l c work six) × (v ≡ volume six))
  pub several : (l c work n : ℕ) → a ≡ Conversion.Several l c work n → reading_says r ≡ record { number = 30; shown = none }
  pub no_volume : 0 < (conversion_says a).number → reading_says r ≡ record { number = (conversion_says a).number; shown = none }

-- so it is of a drawing, of what a conversion says of it that was lent these rooms
pub record AssessedIn (x : Input) (limit : ℕ) (faces₀ solids₀ : List ℕ) (r : Reading) : Type 0 where
  pub conversion : Converted
  pub converts : Converts x limit faces₀ solids₀ conversion.answer conversion.faces conversion.solids
  pub reads : ReadAs conversion.answer r

-- whatever the rooms are, if only they are large enough
abbrev pub Assesses : Input → ℕ → Reading → Type 0
Assesses x limit r = (faces₀ solids₀ : List ℕ) → 832 ≤ length faces₀ → 24 ≤ length solids₀ → AssessedIn x limit faces₀ solids₀ r

pub record Checks (x : Input) (list : List ℕ) (r : Verdict) : Type 0 where
  -- demand 1: the first line of the table that offends, with the lowest place that does
  pub first : forms x
      (drawings (drawing x)
      (one 20 (GoodList (drawing x) list → ⊥) (shells (drawing x) (candidates_of x) (sent_faces (drawing x) list) end)))
      (of_verdict r)
  -- demand 3: accepted exactly where the list names one solid with its directions
  pub exactly : Passes x
      → (r ≡ ListAccepted)
      ↔ (GoodList (drawing x) list × NamesOne (drawing x) (candidates_of x) (sent_faces (drawing x) list))

-- of sheets that are read and written
pub record ReadsSheet (s : List ℕ) (r : Result Drawing Refusal) : Type 0 where
  -- demand 1; a refusal comes without a drawing, and the document's is blank
  pub first : forms (sheet s) end (sheet_as r).answer
  pub none : (f : Refusal) → r ≡ Err f → read_sheet s ≡ record { answer = Err f; drawing = blank }
  -- demand 2: what is accepted is written back with the same bytes
  pub again : (d : Drawing) → r ≡ Ok d → (xyz : List ℤ) × (ends : List ℕ)
      × (d ≡ held (length xyz / 3) (length ends / 2) xyz ends) × Sheets.Writes xyz ends s

-- the lines of the table for what is written: "the sheet writer 5, 8, 9, 10, then 1"; of a face list 20, then 1
abbrev pub by_writer : List ℤ → List ℕ → List ℕ → Answer → Type 0
by_writer xyz ends room =
    forms (lent xyz ends) (one 1 (length room < bytes_for (total (lent_edition xyz ends) (length xyz / 3) (length ends / 2))) end)

abbrev pub by_sender : Format → List Loop → List ℕ → Answer → Type 0
by_sender f fs room = one 20 (NoList fs) (one 1 (length room < bytes_for (bits_of f fs)) end)

-- these bytes stand at the start of the room, as many as were reported, and later room keeps its contents
pub record Stands (s room₀ : List ℕ) (n : ℕ) (room : List ℕ) : Type 0 where
  pub size : n ≡ length s
  pub there : room ≡ s ++ drop n room₀

pub record WritesSheet (xyz : List ℤ) (ends room₀ : List ℕ) (r : Written) (room : List ℕ) : Type 0 where
  -- demand 1
  pub first : by_writer xyz ends room₀ (of_written r)
  pub kept : (f : Refusal) → r ≡ Err f → room ≡ room₀
  -- demand 2: what was written reads back the same
  pub back : (n : ℕ) → r ≡ Ok n → (s : List ℕ) × Stands s room₀ n room × Sheets.Reads s xyz ends

-- demand 1, of face lists that are read and written; a refusal is 20 and comes without faces, as the document's has none; a list that is
-- read holds these faces, and what is written are the faces, packed
pub record ReadsFaces (v : ℕ) (list : List ℕ) (r : Result FaceRows Refusal) : Type 0 where
  pub first : one 20 (Shape (edition_of list) v list → ⊥) end (faces_as r).answer
  pub none : (f : Refusal) → r ≡ Err f → (Err f ≡ refuse No.ShellShape 0) × (faces_of (edition_of list) v list ≡ no_faces)
  pub faces : (g : FaceRows) → r ≡ Ok g → faces_as (Ok g) ≡ returned (faces_in (edition_of list) list)

pub record Sends (f : Format) (fs : List Loop) (room₀ : List ℕ) (r : Written) (room : List ℕ) : Type 0 where
  pub first : by_sender f fs room₀ (of_written r)
  pub kept : (e : Refusal) → r ≡ Err e → room ≡ room₀
  pub sent : (n : ℕ) → r ≡ Ok n → Stands (encode_faces f fs) room₀ n room

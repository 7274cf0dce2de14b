-- The customer's demand 1, of every input.
use Rattle.std.specs.Prelude.{◌≡◌, List, ℕ, ◌/◌, ◌≤◌, ◌<◌, ℤ, Float, length, Ok, Err}
use Rattle.std.proofs.Math.Option.{none}
use Rattle.paper.specs.Format.{edition_of, edition_for, lent_edition, total, bytes_for}
use Rattle.paper.specs.Loops.{Loop}
use Rattle.paper.specs.FaceList.{faces_of, bits_of, sent_of, sent_room}
use Rattle.paper.specs.Sheet.{blank, written_of, room_of, read_sheet}
use Rattle.paper.specs.Reading.{conversion_says, reading_says, volume, reading_of}
use Rattle.paper.specs.declared.Refusal.{Refusal}
use Rattle.paper.specs.declared.Conversion.{Conversion}
use Rattle.means_report.specs.Report.{solid_count}
use Rattle.demands.specs.Input.{Input, lent, sheet, drawing, candidates_of, converted, checked}
use Rattle.demands.specs.Table.{end, one, rooms_and_limit, forms, drawings, of_conversion, of_written, of_verdict}
use Rattle.demands.specs.Shells.{Shape, GoodList, sent_faces, shells, NoList}

-- a report is of one solid or of 2 to 8; its work, and that of 17 and 18, is within the limit, and that of 19 is the limit
abbrev pub WithinLimit : ℕ → Conversion → Type 0
WithinLimit limit (Conversion.One l c work six) = (work ≤ limit) × (0 < six)
WithinLimit limit (Conversion.Several l c work n) = (work ≤ limit) × (2 ≤ n) × (n ≤ 8)
WithinLimit limit (Conversion.NoSolid l c work) = work ≤ limit
WithinLimit limit (Conversion.Many l c work) = work ≤ limit
WithinLimit limit (Conversion.TooLong l c work) = work ≡ limit
WithinLimit limit (Conversion.Refused r) = Unit {0}

pub record Demand1 : Type 0 where
  -- "Every sheet, drawing, face list, work limit or room, however damaged, gets one of the answers in document 01", "its number and
  -- place": the first line of the table that offends, with the lowest place that does
  pub converts : (x : Input) (limit : ℕ) (room solids : List ℕ)
      → WithinLimit limit (converted x limit room solids).answer
      × rooms_and_limit limit room solids (forms x (drawings (drawing x) end)) (of_conversion (converted x limit room solids).answer)
  pub checks : (x : Input) (list : List ℕ)
      → forms x
      (drawings (drawing x)
      (one 20 (GoodList (drawing x) list → ⊥) (shells (drawing x) (candidates_of x) (sent_faces (drawing x) list) end)))
      (of_verdict (checked x list))
  pub reads : (s : List ℕ) → forms (sheet s) end (read_sheet s).answer
  pub reads_faces : (v : ℕ) (list : List ℕ) → one 20 (Shape (edition_of list) v list → ⊥) end (faces_of (edition_of list) v list).answer
  pub writes : (xyz : List ℤ) (ends room : List ℕ)
      → forms (lent xyz ends) (one 1 (length room < bytes_for (total (lent_edition xyz ends) (length xyz / 3) (length ends / 2))) end)
      (of_written (written_of (lent_edition xyz ends) xyz ends room))
  pub sends : (v e : ℕ) (fs : List Loop) (room : List ℕ)
      → one 20 (NoList fs) (one 1 (length room < bytes_for (bits_of (edition_for v e) fs)) end) (of_written (sent_of (edition_for v e) fs room))
  -- "leaves all lent buffers with the contents they came with": wherever there is no report, and no sheet or face list is written
  pub rooms_kept : (x : Input) (limit : ℕ) (room solids : List ℕ) → solid_count (converted x limit room solids).answer ≡ 0
      → ((converted x limit room solids).faces ≡ room) × ((converted x limit room solids).solids ≡ solids)
  pub blank_kept : (s : List ℕ) (r : Refusal) → (read_sheet s).answer ≡ Err r → (read_sheet s).drawing ≡ blank
  pub room_kept : (xyz : List ℤ) (ends room : List ℕ) (r : Refusal) → written_of (lent_edition xyz ends) xyz ends room ≡ Err r
      → room_of (lent_edition xyz ends) xyz ends room ≡ room
  pub send_room_kept : (v e : ℕ) (fs : List Loop) (room : List ℕ) (r : Refusal) → sent_of (edition_for v e) fs room ≡ Err r
      → sent_room (edition_for v e) fs room ≡ room
  -- "A volume that wasn't assessed is never shown as a number": a volume is that of one solid; otherwise there is 30, or the answer's own
  -- number
  pub volume_of : (a : Conversion) (v : Float) → reading_of a ≡ Ok v → (l c work six : ℕ) × (a ≡ Conversion.One l c work six)
      × (v ≡ volume six)
  pub one_solid : (l c work six : ℕ) → reading_of (Conversion.One l c work six) ≡ Ok (volume six)
  pub several : (l c work n : ℕ) → reading_says (reading_of (Conversion.Several l c work n)) ≡ record { number = 30; shown = none }
  pub no_volume : (a : Conversion) → 0 < (conversion_says a).number
      → reading_says (reading_of a) ≡ record { number = (conversion_says a).number; shown = none }

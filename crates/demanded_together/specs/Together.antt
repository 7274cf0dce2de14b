-- The sentences of the demands that speak of more than one call: what one leaves is handed to the next.
use Rattle.std.specs.Prelude.{Bool, true, ◌↔◌, ◌≡◌, ℕ, ◌*◌, ◌/◌, ◌≤◌, ◌<◌, ℤ, length, drop, Ok, Err}
use mathlib.Core.List.{List, ◌++◌, flat_map}
use Rattle.paper.specs.Verdict.{list_edition}
use Rattle.paper.specs.Format.{bytes_for, lent_edition}
use Rattle.paper.specs.Loops.{Loop}
use Rattle.paper.specs.FaceList.{bits_of, encode_faces, list_room}
use Rattle.paper.specs.Sheet.{held, written_of, room_of}
use Rattle.paper.specs.Refusals.{ListAccepted, Fine, Verdict, Written}
use Rattle.paper.specs.declared.Drawing.{Drawing}
use Rattle.paper.specs.declared.Refusal.{Refusal}
use Rattle.paper.specs.Sheet.{Sheet}
use Rattle.walk_input.specs.Given.{coordinates_of, links_of}
use Rattle.means_report.specs.Listed.{Entry, entry_at, words_of}
use Rattle.means_check.specs.Bodies.{SameBody}
use Rattle.means_report.specs.Report.{solid_count}
use Rattle.demands.specs.Input.{Input, sheet, drawing, candidates_of, Passes, checked}
use Rattle.demands.specs.Table.{one, end, forms, of_written}
use Rattle.demands.specs.Shells.{GoodList, sent_faces, NoList}
use Rattle.demands.specs.Solid.{Every}
use Rattle.demands.specs.Spoiled.{Spoiled}
use Rattle.demands.specs.Demand3.{NamesIt}
use Rattle.demanded.specs.Demanded.{Converts, Checks, by_writer, Stands}
use Rattle.demanded_together.specs.declared.Told.{Told}

-- demand 2, "A drawing that a sheet can hold, written out, reads back the same": or it is refused as the writer refuses it
pub record ReadsBack (xyz : List ℤ) (ends room₀ : List ℕ) (r : Sheet) (room : List ℕ) : Type 0 where
  pub first : by_writer xyz ends room₀ r.answer
  pub kept : (f : Refusal) → r.answer ≡ Err f → room ≡ room₀
  pub same : r.answer ≡ Fine → r.drawing ≡ held (length xyz / 3) (length ends / 2) xyz ends

-- a drawing by value, written out
abbrev pub WrittenFrom : Drawing → List ℕ → Written → List ℕ → Type 0
WrittenFrom d room₀ r room =
    let f = lent_edition (coordinates_of d) (links_of d) in
    (r ≡ written_of f (coordinates_of d) (links_of d) room₀) × (room ≡ room_of f (coordinates_of d) (links_of d) room₀)

-- demand 2, "a sheet that is accepted is written back with the same bytes": or it is refused as the reader refuses it, or by 1
pub record WritesBack (s room₀ : List ℕ) (r : Written) (room : List ℕ) : Type 0 where
  pub first : forms (sheet s) (one 1 (length room₀ < length s) end) (of_written r)
  pub kept : (f : Refusal) → r ≡ Err f → room ≡ room₀
  pub same : (n : ℕ) → r ≡ Ok n → Stands s room₀ n room

-- faces that can be sent, and whose list is accepted, are found so
abbrev pub AcceptedAsSent : Input → List Loop → Bool → Type 0
AcceptedAsSent x fs r =
    let f = list_edition (drawing x) in
    (NoList fs → ⊥) → bytes_for (bits_of f fs) ≤ list_room → checked x (encode_faces f fs) ≡ ListAccepted → r ≡ true

-- demand 3, of a report and two lists
module _ (x : Input) (limit : ℕ) (faces₀ solids₀ list other : List ℕ) where
  -- the solids that a report lists; "the check accepts a list exactly when it names one" of them with its directions
  pub record Lists (faces solids : List ℕ) (r : Told) : Type 0 where
    pub es : List Entry
    pub n : length es ≡ solid_count r.conversion
    pub all : Every (drawing x) (candidates_of x) es
    pub words : solids ≡ flat_map words_of es ++ drop (3 * length es) solids₀
    pub exactly : (r.first ≡ ListAccepted)
        ↔ (GoodList (drawing x) list × ((i : ℕ) × (i < length es) × NamesIt x (entry_at es i) (sent_faces (drawing x) list)))
    -- "with n = 1 any two lists that are accepted are the same body"
    pub same : length es ≡ 1 → r.first ≡ ListAccepted → r.second ≡ ListAccepted
        → SameBody (sent_faces (drawing x) list) (sent_faces (drawing x) other)

  pub record Agrees (faces solids : List ℕ) (r : Told) : Type 0 where
    pub converts : Converts x limit faces₀ solids₀ r.conversion faces solids
    pub checks : Checks x list r.first
    pub checks_other : Checks x other r.second
    pub lists : 0 < solid_count r.conversion → Lists faces solids r
    -- a list that was accepted, and then had a face turned, all turned, one left out or one doubled, is refused
    pub spoiled : Passes x → r.first ≡ ListAccepted → Spoiled (sent_faces (drawing x) list) (sent_faces (drawing x) other)
        → (f : Refusal) × (r.second ≡ Err f)

-- The customer's demand 3, of a drawing lent as two lists and of one on a sheet.
use Rattle.std.specs.Prelude.{◌≡◌, ◌↔◌, ℕ, ◌*◌, ◌≤◌, ◌<◌, length, drop, Err}
use mathlib.Core.List.{List, ◌++◌, flat_map}
use Rattle.paper.specs.Verdict.{list_edition}
use Rattle.paper.specs.Format.{bytes_for}
use Rattle.paper.specs.FaceList.{encode_faces, bits_of, solid_faces}
use Rattle.paper.specs.Loops.{Loop}
use Rattle.paper.specs.Conversion.{Converted}
use Rattle.paper.specs.declared.Refusal.{Refusal}
use Rattle.paper.specs.Refusals.{ListAccepted}
use Rattle.means_solid.specs.Named.{Names}
use Rattle.means_report.specs.Fair.{Same}
use Rattle.means_report.specs.Listed.{Entry, entry_at, words_of}
use Rattle.means_check.specs.Bodies.{SameBody}
use Rattle.means_report.specs.Report.{solid_count}
use Rattle.demands.specs.Input.{Input, drawing, candidates_of, Passes, converted, checked}
use Rattle.demands.specs.Solid.{Every, NamesOne}
use Rattle.demands.specs.Shells.{GoodList, sent_faces, NoList}
use Rattle.demands.specs.Spoiled.{Spoiled}

module _ (x : Input) where
  -- the faces name this solid of a report, "with its directions, in any order of faces and from any starting corners"
  abbrev pub NamesIt : Entry → List Loop → Type 0
  NamesIt e fs = Names (drawing x) (candidates_of x) e.taken e.turned fs

  -- "where the report lists n solids"
  pub record Report (solids : List ℕ) (r : Converted) : Type 0 where
    -- these n, which are all that there are: their words stand in the room, in this order
    pub es : List Entry
    pub n : length es ≡ solid_count r.answer
    pub all : Every (drawing x) (candidates_of x) es
    pub words : r.solids ≡ flat_map words_of es ++ drop (3 * length es) solids
    -- "each of the n is accepted": any faces that name it, packed; and the faces that its record and the report's rows give do name it
    pub each : (i : ℕ) → i < length es → (fs : List Loop) → NamesIt (entry_at es i) fs
        → checked x (encode_faces (list_edition (drawing x)) fs) ≡ ListAccepted
    pub some : (i : ℕ) → i < length es
        → NamesIt (entry_at es i) (solid_faces r.faces (drop (3 * i) r.solids))
    -- such faces can be sent: the writer of face lists takes them, and 338 bytes are enough
    pub sent : (i : ℕ) → i < length es → (fs : List Loop) → NamesIt (entry_at es i) fs
        → (NoList fs → ⊥) × (bytes_for (bits_of (list_edition (drawing x)) fs) ≤ 338)
    -- "no other body is": what is accepted names one of the n
    pub other : (list : List ℕ) → checked x list ≡ ListAccepted
        → (i : ℕ) × (i < length es) × NamesIt (entry_at es i) (sent_faces (drawing x) list)
    -- the n are n bodies: no two have lists that are the same body
    pub differ : (i j : ℕ) → i < length es → j < length es → (fs gs : List Loop) → NamesIt (entry_at es i) fs → NamesIt (entry_at es j) gs
        → SameBody fs gs → i ≡ j
    -- "with n = 1 any two accepted lists are the same body"
    pub same : length es ≡ 1 → (a b : List ℕ) → checked x a ≡ ListAccepted → checked x b ≡ ListAccepted
        → SameBody (sent_faces (drawing x) a) (sent_faces (drawing x) b)

  -- "For a drawing that passes the drawing rules"
  pub record Demand3 : Type 0 where
    -- "the check accepts a list exactly when it names one solid of demand 2 with its directions": a list of good shape, 20
    pub exactly : (list : List ℕ)
        → (checked x list ≡ ListAccepted)
        ↔ (GoodList (drawing x) list × NamesOne (drawing x) (candidates_of x) (sent_faces (drawing x) list))
    -- "one solid": no list names two
    pub one_solid : (fs : List Loop) (a b : NamesOne (drawing x) (candidates_of x) fs)
        → Same a.taken b.taken × Same a.turned b.turned
    -- an accepted list with a face turned, all turned, one missing or one doubled is refused
    pub refused : (a b : List ℕ) → checked x a ≡ ListAccepted → Spoiled (sent_faces (drawing x) a) (sent_faces (drawing x) b)
        → (r : Refusal) × (checked x b ≡ Err r)
    pub reports : (limit : ℕ) (room solids : List ℕ) → 0 < solid_count (converted x limit room solids).answer
        → Report solids (converted x limit room solids)

-- demand 3
abbrev pub Holds3 : Type 0
Holds3 = (x : Input) → Passes x → Demand3 x

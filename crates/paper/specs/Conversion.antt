-- Document 01, "What comes back": the answers of conversion, 1 to 19, with both rooms at exit.
use Rattle.std.specs.Prelude.{Bool, true, false, cond, ℕ, ◌*◌, ltb, eqb, ℤ, length, drop, Ok, Err}
use mathlib.Core.List.{List, [], ◌∷◌, ◌++◌, map, flat_map}
use Rattle.paper.specs.Numbers.{Limits, documented, most_work, row_bytes, solid_words, face_room, solid_room}
use Rattle.paper.specs.Refusals as No
use Rattle.paper.specs.Refusals.{value_of, Check, check, first_of, offends, Answer}
use Rattle.paper.specs.Format.{edition_of, coordinates_in, ends_in}
use Rattle.paper.specs.Sheet.{sheet_checks, lent_checks}
use Rattle.paper.specs.Record.{entry}
use Rattle.paper.specs.Drawing.{Wire, wire, drawing_checks}
use Rattle.paper.specs.Loops.{Loop, row, loops, uncovering, loop_checks}
use Rattle.paper.specs.Solids.{Tables, tables_of, Judgement, Fails, Solid, judged}
use Rattle.paper.specs.Walk.{Status, is_taken, Log, search}
use Rattle.paper.specs.declared.Conversion.{Conversion}

-- what conversion says and what it leaves in the two rooms
pub record Converted : Type 0 where
  pub answer : Conversion
  pub faces : List ℕ
  pub solids : List ℕ

-- ---- a solid of the walk

-- its row; what the tests make of it; its turned faces and its six volumes
abbrev pub takens : List Status → List Bool
takens = map is_taken

abbrev pub is_solid : Judgement → Bool
is_solid Fails = false
is_solid (Solid turned six) = true

abbrev pub turned_of : Judgement → List Bool
turned_of Fails = []
turned_of (Solid turned six) = turned

abbrev pub six_of : Judgement → ℕ
six_of Fails = 0
six_of (Solid turned six) = six

-- the test of the walk
unfoldable pub accepted : Tables → List Status → Bool
accepted t st = is_solid (judged t (takens st))

-- ---- "A report writes 13 bytes per candidate and three words per solid"; "Later room keeps its contents"

unfoldable pub faces_after : List Loop → List ℕ → List ℕ
faces_after cs room = flat_map row cs ++ drop (row_bytes * length cs) room

unfoldable pub words : Tables → List Status → List ℕ
words t st = let j = judged t (takens st) in entry (takens st) (turned_of j) (six_of j)

unfoldable pub solids_after : Tables → List (List Status) → List ℕ → List ℕ
solids_after t found room = flat_map (words t) found ++ drop (solid_words * length found) room

-- ---- "17, 18, 19: NoSolid, Many (nine), TooLong", or a report

-- loops, candidates, work and, of a report, the number of solids or the one's six volumes
unfoldable pub reported : ℕ → List Loop → Tables → ℕ → List (List Status) → List ℕ → List ℕ → Converted
reported l cs t work [] faces solids =
    record { answer = Conversion.NoSolid l (length cs) work; faces = faces; solids = solids }
reported l cs t work (st ∷ []) faces solids =
    record {
      answer = Conversion.One l (length cs) work (six_of (judged t (takens st)));
      faces = faces_after cs faces;
      solids = solids_after t (st ∷ []) solids;
    }
reported l cs t work (st ∷ (st' ∷ found)) faces solids =
    record {
      answer = Conversion.Several l (length cs) work (length (st ∷ (st' ∷ found)));
      faces = faces_after cs faces;
      solids = solids_after t (st ∷ (st' ∷ found)) solids;
    }

-- 18 and 19 go by how the walk ended
unfoldable pub concluded : ℕ → List Loop → Tables → Log → List ℕ → List ℕ → Converted
concluded l cs t log faces solids =
    cond (eqb log.ended (value_of No.Many))
    (record { answer = Conversion.Many l (length cs) log.work; faces = faces; solids = solids })
    (cond (eqb log.ended (value_of No.TooLong))
    (record { answer = Conversion.TooLong l (length cs) log.work; faces = faces; solids = solids })
    (reported l cs t log.work log.found faces solids))

-- ---- "Conversion uses 1 to 19"

-- 1: "under 832 bytes for faces; under 24 words for solids". 2: "above 1,000,000"
unfoldable pub entry_checks : ℕ → List ℕ → List ℕ → List Check
entry_checks limit faces solids =
    check No.NoRoom (offends (ltb (length faces) face_room) 0)
    ∷ check No.NoRoom (offends (ltb (length solids) solid_room) 1)
    ∷ check No.BadLimit (offends (ltb most_work limit) 0)
    ∷ []

-- "Every line below leaves all buffers unchanged"
abbrev pub or_convert : Answer → List ℕ → List ℕ → Converted → Converted
or_convert (Ok _) faces solids c = c
or_convert (Err r) faces solids c = record { answer = Conversion.Refused r; faces = faces; solids = solids }

-- of a drawing whose own form is checked by `form`: 3 to 10
unfoldable pub conversion : Limits → List Check → Wire → ℕ → List ℕ → List ℕ → Converted
conversion most form d limit faces solids =
    let ls = loops d in
    let cs = uncovering d ls in
    let t = tables_of d cs in
    or_convert (first_of (entry_checks limit faces solids ++ form ++ drawing_checks d ++ loop_checks most ls cs)) faces solids
    (concluded (length ls) cs t (search most.solids (accepted t) limit (length cs) t.masks) faces solids)

-- of "two lists of numbers", where "3, 4, 6 and 7 don't arise"; of a sheet
unfoldable pub convert_lists : List ℤ → List ℕ → ℕ → List ℕ → List ℕ → Converted
convert_lists xyz ends limit faces solids = conversion documented (lent_checks xyz ends) (wire xyz ends) limit faces solids

unfoldable pub convert_sheet : List ℕ → ℕ → List ℕ → List ℕ → Converted
convert_sheet s limit faces solids =
    let f = edition_of s in
    conversion documented (sheet_checks f s) (wire (coordinates_in f s) (ends_in f s)) limit faces solids

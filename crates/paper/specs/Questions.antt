-- Questions to the definitions and what they reply, for the tables that are proved by evaluation: one definition that computes with
-- all others.
use Rattle.std.specs.Prelude.{ℕ, ◌≡◌, Bool, true, ◌||◌, ℤ, pos, neg_ℤ, length, replicate}
use mathlib.Core.List.{List, [], ◌∷◌, map, flat_map}
use Rattle.std.specs.Float.Ieee.{div, of_int}
use Rattle.pack.specs.Bits.{bits, val, run, cut, field_at, fields_at}
use Rattle.pack.specs.Fill.{padded}
use Rattle.sets.specs.Word.{word, digits, count, both, either, less, only, first}
use Rattle.lists.specs.Lists.{any, all, filter, sides, any_true, upto, lowest, member, same_list}
use Rattle.paper.specs.Numbers.{Limits, most_solids, most_work, face_room, solid_room}
use Rattle.paper.specs.Refusals.{first_of, Answer, Reading, Verdict, Written}
use Rattle.paper.specs.Format.{edition_of, edition_for, lent_edition, filled, fill_after, encode}
use Rattle.paper.specs.Sheet.{far_at, wrong_at, low_at, edge_checks, content_checks, open_checks, count_checks, close_checks, shape_checks}
use Rattle.paper.specs.Sheet.{Sheet, sheet_checks, lent_checks, sheet_of, read_sheet, writer_checks, written_of, room_of}
use Rattle.paper.specs.Record.{set_of, digits_at, entry}
use Rattle.paper.specs.Points.{above}
use Rattle.paper.specs.Polygon.{covers}
use Rattle.paper.specs.Drawing.{points_of, wire, joined, drawing_checks}
use Rattle.paper.specs.Loops.{flipped, row, follows, closes, branch, scan, ext, level, loops, polygon, uncovering, candidates}
use Rattle.paper.specs.Loops.{loop_checks}
use Rattle.paper.specs.Clash.{pierces, enters, folds, clash}
use Rattle.paper.specs.Solids.{runs, runs_up, has, face_six, clashing, tables_of, in_two, unlike, fresh, reached_on, runs_down, across_edge}
use Rattle.paper.specs.Solids.{pass, spread, faces_from, connected, once_each_way, oriented, six_from, clear_from, judged}
use Rattle.paper.specs.Walk.{taken_on, open_on, open_count, decide, contradicts, settle, sweep, stable, choose, assume, leaf, walk}
use Rattle.paper.specs.Walk.{search}
use Rattle.paper.specs.Conversion.{takens, accepted, faces_after, words, solids_after, reported, concluded, entry_checks, conversion}
use Rattle.paper.specs.Conversion.{convert_lists, convert_sheet}
use Rattle.paper.specs.FaceList.{face_bits, list_bits, encode_faces, faces_at, faces_in, span, bits_of, face_fits, well_shaped, row_at}
use Rattle.paper.specs.FaceList.{solid_faces, send_checks, sent_of, sent_room}
use Rattle.paper.specs.Verdict.{lowest_at, from_place, from_lowest, onward, normal_form, number_in, mask_of, listed, not_candidate}
use Rattle.paper.specs.Verdict.{face_twice, edge_count, direction, pieces, inward, clashes, face_checks, verdict, verdict_lists}
use Rattle.paper.specs.Verdict.{verdict_sheet}
use Rattle.paper.specs.Reading.{reading_of}
use Rattle.paper.specs.Desk.{text, decimal_in, decimal, signed, faces_text, solid_text, solids_text, head_text, answer_text, desk_text}
use Rattle.paper.specs.declared.Format.{Format}
use Rattle.paper.specs.declared.Conversion.{Conversion}

-- a drawing as two lists
pub record Drawn : Type 0 where
  pub xyz : List ℤ
  pub ends : List ℕ

-- its edition
abbrev pub form_of : Drawn → Format
form_of d = lent_edition d.xyz d.ends

abbrev pub neg : ℕ → ℤ
neg n = neg_ℤ (pos n)

pub data Question : Type 0 where
  -- a drawing under a work limit: the answer, its reading and the solid room; the face room
  converted : Drawn → ℕ → Question
  faced : Drawn → Question
  -- the same with limits of its own and rooms of any length: all that comes back
  wholly : (most : Limits) → Drawn → (limit faceBytes solid_words : ℕ) → Question
  -- a drawing lent as two lists; its sheet's length; its sheet written to room of a length
  lent : Drawn → Question
  sized : Drawn → Question
  stored : Drawn → ℕ → Question
  -- a sheet that is read, and what the desk program prints of it; of a drawing's sheet
  fetched : List ℕ → Question
  desk : List ℕ → Question
  printed : Drawn → Question
  -- a list of faces sent for a drawing; a packed one
  sent : Drawn → List (List ℕ) → Question
  checked : Drawn → List ℕ → Question
  -- two faces, by rules A, B and C either way round; two loops in one plane, the first covering the second
  paired : List ℤ → List ℤ → Question
  covering : List ℤ → List ℤ → Question
  -- the selections that have every edge twice, as the walk meets them: do they pass (iii)?
  selected : Drawn → Question
  -- an answer of conversion: its reading; what the desk program prints of it, the solids in these words
  read : Conversion → Question
  worded : (vertices edges : ℕ) → Conversion → (words : List ℕ) → Question
  -- a packed list of faces sent for a sheet; a list of faces for a drawing's sheet
  ruled : (sheet list : List ℕ) → Question
  enclosed : Drawn → List (List ℕ) → Question
  -- a reported solid of a drawing of so many vertices and edges, by the rows of the report and its record, written as a face list to room
  -- of a length
  posted : (vertices edges : ℕ) → (rows solid : List ℕ) → (room : ℕ) → Question

pub data Reply : Type 0 where
  solved : Conversion → Reading → List ℕ → Reply
  left : Conversion → (faces solids : List ℕ) → Reply
  bytes : List ℕ → Reply
  number : ℕ → Reply
  answer : Answer → Reply
  wrote : Written → List ℕ → Reply
  sheet : Sheet → Reply
  verdicts : Verdict → Reply
  rules : (A B C : Bool) → Reply
  tests : List Bool → Reply
  reads : Reading → Reply

-- rooms that were not empty before: later room keeps its contents
abbrev pub face_before : ℕ → List ℕ
face_before n = replicate n 77

abbrev pub solid_before : ℕ → List ℕ
solid_before n = replicate n 99

unfoldable pub selections : Drawn → List Bool
unfolding wire search tables_of candidates oriented faces_from
selections d =
    let w = wire d.xyz d.ends in
    let cs = candidates w in
    let t = tables_of w cs in
    let turned_of : List Bool → List Bool = λ taken. (faces_from (first taken) t taken).turned in
    map (λ st. oriented t.masks t.ups (takens st) (turned_of (takens st)))
    (search most_solids (λ st. true) most_work (length cs) t.masks).found

unfoldable pub reply : Question → Reply
unfolding edition_of edition_for set_of digits_at entry bits val run cut field_at fields_at digits word count both either less only first any all
    filter sides any_true upto lowest
    member same_list flat_map first_of filled fill_after encode far_at wrong_at low_at edge_checks content_checks open_checks count_checks
    close_checks shape_checks sheet_checks lent_checks padded sheet_of writer_checks written_of room_of above covers points_of wire joined
    drawing_checks row follows closes branch scan ext level loops polygon uncovering candidates loop_checks pierces enters folds clash runs
    runs_up has face_six clashing tables_of in_two unlike fresh reached_on runs_down across_edge pass spread faces_from connected once_each_way oriented
    six_from clear_from judged taken_on open_on open_count decide contradicts settle sweep stable choose assume leaf walk search accepted
    faces_after words solids_after reported concluded entry_checks conversion convert_lists convert_sheet face_bits list_bits encode_faces faces_at
    faces_in span bits_of face_fits well_shaped lowest_at from_place flipped from_lowest onward normal_form number_in mask_of listed not_candidate
    face_twice edge_count direction pieces inward clashes face_checks verdict verdict_lists reading_of text decimal_in decimal signed faces_text
    solid_text solids_text head_text answer_text desk_text selections
reply (converted d limit) =
    let c = convert_lists d.xyz d.ends limit (face_before face_room) (solid_before solid_room) in
    solved c.answer (reading_of c.answer) c.solids
reply (faced d) = bytes (convert_lists d.xyz d.ends most_work (face_before face_room) (solid_before solid_room)).faces
reply (wholly most d limit f s) =
    let c = conversion most (lent_checks d.xyz d.ends) (wire d.xyz d.ends) limit (face_before f) (solid_before s) in
    left c.answer c.faces c.solids
reply (lent d) = answer (first_of (lent_checks d.xyz d.ends))
reply (sized d) = number (length (encode (form_of d) d.xyz d.ends))
reply (stored d n) = wrote (written_of (form_of d) d.xyz d.ends (face_before n)) (room_of (form_of d) d.xyz d.ends (face_before n))
reply (fetched s) = sheet (read_sheet s)
reply (desk s) = bytes (desk_text s)
reply (printed d) = bytes (desk_text (encode (form_of d) d.xyz d.ends))
reply (sent d fs) = verdicts (verdict_lists d.xyz d.ends (encode_faces (form_of d) fs))
reply (checked d list) = verdicts (verdict_lists d.xyz d.ends list)
reply (paired f g) =
    let p = points_of f in
    let q = points_of g in
    rules (pierces p q || pierces q p) (enters p q || enters q p) (folds p q || folds q p)
reply (covering f g) = tests (covers (points_of f) (points_of g) ∷ [])
reply (selected d) = tests (selections d)
reply (read c) = reads (reading_of c)
reply (worded v e c ws) = bytes (answer_text v e c ws)
reply (ruled s list) = verdicts (verdict_sheet s list)
reply (enclosed d fs) = verdicts (verdict_sheet (encode (form_of d) d.xyz d.ends) (encode_faces (form_of d) fs))
reply (posted v e rows solid n) =
    let fs = solid_faces rows solid in
    wrote (sent_of (edition_for v e) fs (face_before n)) (sent_room (edition_for v e) fs (face_before n))

infix 80 ◌yields◌
pub data Case : Type 0 where
  ◌yields◌ : Question → Reply → Case

-- what a row asks, and what it says
unfoldable pub asked : Case → Reply
unfolding reply div of_int verdict_sheet row_at solid_faces send_checks sent_of sent_room
asked (q yields r) = reply q

unfoldable pub said : Case → Reply
said (q yields r) = r

-- every row of a table says what the definitions reply
abbrev pub Holds : List Case → Type 0
Holds rows = map asked rows ≡ map said rows

-- The desk's text in the parts in which it is put, and what is asked.
use Rattle.std.specs.Prelude.{List, ◌++◌, ◌≡◌, ℕ, ◌+◌, ◌*◌, ◌≤◌, length}
use Rattle.paper.specs.Numbers.{most_solids, solid_room, solid_words, set_words, word_bits}
use Rattle.paper.specs.Format.{vertices_in, edges_in, edition_of}
use Rattle.paper.specs.Desk.{text, solids_text, answer_text}
use Rattle.paper.specs.declared.Conversion.{Conversion}
use Rattle.paper.specs.declared.Refusal.{Refusal}
use Rattle.desk_lines.specs.Put.{Fits, field_text, pair_text}
use Rattle.desk_text.specs.declared.answer.Head.{Head}
use Rattle.paper.specs.Refusals.{value_of}
use Rattle.desk_text.specs.declared.answer.SheetCounts.{SheetCounts}

-- ---- the parts

abbrev pub head_of : Head → List ℕ
head_of h =
    pair_text (text "wire ") h.vertices (text " ") h.edges
    ++ pair_text (text "\nloops ") h.loops (text " candidates ") h.candidates
    ++ field_text (text "\nwork ") h.work
    ++ text "\n"

abbrev pub ended_of : Head → List ℕ → List ℕ
ended_of h last = head_of h ++ last

abbrev pub report_of : Head → ℕ → List ℕ → List ℕ
report_of h n ws = head_of h ++ field_text (text "solids ") n ++ text "\n" ++ solids_text 1 n ws

abbrev pub refused_of : Refusal → List ℕ
refused_of r = pair_text (text "refused ") (value_of r.number) (text " ") r.place ++ text "\n"

-- ---- what is asked

-- the counts of a sheet that has them
abbrev pub SheetCounted : List ℕ → SheetCounts → Type 0
SheetCounted s r = 3 ≤ length s → (r.vertices ≡ vertices_in (edition_of s) s) × (r.edges ≡ edges_in (edition_of s) s)

abbrev pub head_for : SheetCounts → ℕ → ℕ → ℕ → Head
head_for s l c w = record { vertices = s.vertices; edges = s.edges; loops = l; candidates = c; work = w }

abbrev pub HeadIs : SheetCounts → ℕ → ℕ → ℕ → Head → Type 0
HeadIs s l c w r = r ≡ head_for s l c w

pub record Reporting (h : Head) (n : ℕ) (ws room : List ℕ) : Type 0 where
  pub words : solid_words * n ≤ length ws
  pub fits : Fits 0 (report_of h n ws) room

pub record Answering (s : SheetCounts) (a : Conversion) (ws room : List ℕ) : Type 0 where
  pub words : solid_room ≤ length ws
  pub few : (l c w n : ℕ) → a ≡ Conversion.Several l c w n → n ≤ most_solids
  pub fits : Fits 0 (answer_text s.vertices s.edges a ws) room

-- room for any text: a number has at most 20 digits, a candidate's at most 2 behind a blank and a sign, and the rest are the document's
-- words; the lines before the solids' count, the count's, and a solid's
abbrev pub digit_room : ℕ
digit_room = 20

abbrev pub head_room : ℕ
head_room = 32 + 5 * digit_room

abbrev pub count_room : ℕ
count_room = 8 + digit_room

abbrev pub line_room : ℕ
line_room = 25 + 2 * digit_room + 4 * (set_words * word_bits)

abbrev pub text_room_size : ℕ
text_room_size = head_room + count_room + line_room * most_solids

abbrev pub RoomForText : List ℕ → Type 0
RoomForText room = text_room_size ≤ length room

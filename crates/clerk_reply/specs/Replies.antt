-- docs/PIPE.md, "A reply": the bytes of each kind. "Rooms are as a function leaves them that was lent zeros."
use Rattle.std.specs.Prelude as Std
use Rattle.std.specs.Prelude.{None, Some, List, [], ◌∷◌, ◌++◌, ◌≡◌, ℕ, ◌+◌, ◌*◌, ◌≤◌, ◌<◌, ℤ, pos, Float, length, replicate}
use Rattle.std.proofs.Math.Option.{Option, none, some}
use Rattle.std.specs.Float.{binary64}
use Rattle.std.specs.Float.Ieee.{to_bits}
use Rattle.paper.specs.Numbers.{most_vertices, most_edges, face_room, solid_room}
use Rattle.paper.specs.Format.{sheet_room, edition_for, lent_edition}
use Rattle.paper.specs.Sheet.{room_of}
use Rattle.paper.specs.FaceList.{list_room, solid_faces, sent_room}
use Rattle.paper.specs.Conversion.{Converted, convert_sheet}
use Rattle.paper.specs.Verdict.{verdict_sheet}
use Rattle.paper.specs.Reading.{Said, Shown, reading_of, reading_says, conversion_says, verdict_says, written_said, sent_said}
use Rattle.paper.specs.Desk.{text, desk_text}
use Rattle.paper.specs.declared.Conversion.{Conversion}
use Rattle.desk_lines.specs.Put.{Puts}
use Rattle.desk_text.specs.Written.{text_said, text_room}
use Rattle.desk_text.specs.Texts.{text_room_size}
use Rattle.export_words.specs.Words.{words_said, onto, most_said}
use Rattle.export_words.specs.Lists.{read_into}
use Rattle.clerk_words.specs.Words.{word_size, words_bytes, numbers_bytes}

-- ---- what all have in common

abbrev pub zeros : ℕ → List ℕ
zeros n = replicate n 0

-- "What is said is seven words: document 01's number, its place, and the values that come with it; 0 in the rest"
abbrev pub said_words : Said → List ℕ
said_words s = onto (words_said s) (zeros most_said)

abbrev pub said_bytes : Said → List ℕ
said_bytes s = words_bytes (said_words s)

-- "The reading is the number that says why there is none and 0, or 0 and the bits of the volume as a double."
abbrev pub volume_bits : Option Float → ℕ
volume_bits none = 0
volume_bits (some v) = to_bits binary64 v

abbrev pub shown_words : Shown → List ℕ
shown_words s = s.number ∷ volume_bits s.shown ∷ []

abbrev pub reading_words : Conversion → List ℕ
reading_words c = shown_words (reading_says (reading_of c))

-- ---- how many bytes: "What is said is seven words", and what comes behind it

abbrev pub hello_length : ℕ
hello_length = 16

abbrev pub said_length : ℕ
said_length = word_size * most_said

abbrev pub read_length : ℕ
read_length = said_length + word_size * (3 * most_vertices) + 2 * most_edges

abbrev pub converted_length : ℕ
converted_length = said_length + word_size * 2 + face_room + word_size * solid_room

abbrev pub written_length : ℕ
written_length = said_length + sheet_room

abbrev pub sent_length : ℕ
sent_length = said_length + list_room

abbrev pub text_length : ℕ
text_length = said_length + text_room_size

-- the longest has the desk's text
abbrev pub reply_room : ℕ
reply_room = text_length

-- ---- the kinds

-- 0: who is there
unfoldable pub hello_reply : List ℕ
unfolding text
hello_reply = text "nibgravel pipe 1"

-- 1: a sheet read
unfoldable pub read_reply : List ℕ → List ℕ
read_reply sheet =
    let r = read_into sheet (replicate (3 * most_vertices) (pos 0)) (zeros (2 * most_edges)) in
    said_bytes r.said ++ numbers_bytes r.xyz ++ r.ends

-- 2: a sheet converted
abbrev pub conversion_bytes : Converted → List ℕ
conversion_bytes c = said_bytes (conversion_says c.answer) ++ words_bytes (reading_words c.answer) ++ c.faces ++ words_bytes c.solids

unfoldable pub converted_reply : List ℕ → ℕ → List ℕ
converted_reply sheet limit = conversion_bytes (convert_sheet sheet limit (zeros face_room) (zeros solid_room))

-- 3: a face list checked
unfoldable pub checked_reply : List ℕ → List ℕ → List ℕ
checked_reply sheet list = said_bytes (verdict_says (verdict_sheet sheet list))

-- 4: a sheet written
unfoldable pub written_reply : List ℤ → List ℕ → List ℕ
written_reply xyz ends =
    let room = zeros sheet_room in
    said_bytes (written_said (lent_edition xyz ends) xyz ends room) ++ room_of (lent_edition xyz ends) xyz ends room

-- 5: a solid as a face list. A request names no counts of a drawing
unfoldable pub sent_reply : List ℕ → ℕ → ℕ → List ℕ
sent_reply rows taken turned =
    let fs = solid_faces rows (taken ∷ turned ∷ []) in
    let f = edition_for 0 0 in
    let room = zeros list_room in
    said_bytes (sent_said f fs room) ++ sent_room f fs room

-- 6: the desk's text
unfoldable pub text_reply : List ℕ → List ℕ
text_reply sheet =
    let t = desk_text sheet in
    let room = zeros text_room_size in
    said_bytes (text_said t room) ++ text_room t room

-- ---- what is asked, and what is left

-- room for any reply
pub record LongEnough (room : List ℕ) : Type 0 where
  pub long : reply_room ≤ length room

-- these bytes stand at the room's start, all else is as it was, and r is how many they are: n
pub record Replies (bytes : List ℕ) (n : ℕ) (room₀ room : List ℕ) (r : ℕ) : Type 0 where
  pub puts : Puts room₀ 0 bytes room r
  pub sized : r ≡ n

-- the same of some bytes, or there is no reply and the room is as it was
abbrev pub MayReply : List ℕ → ℕ → List ℕ → List ℕ → Std.Option ℕ → Type 0
MayReply bytes n room₀ room None = (bytes ≡ []) × (room ≡ room₀)
MayReply bytes n room₀ room (Some r) = (0 < r) × Replies bytes n room₀ room r

-- A text written to the start of a lent room: the answer, by its number and value too, and the room at exit.
use Rattle.std.specs.Prelude.{List, [], ◌∷◌, ◌++◌, ℕ, ltb, length, drop, Ok, Err}
use Rattle.paper.specs.Refusals as No
use Rattle.paper.specs.Refusals.{Check, check, first_of, offends, Answer, Written}
use Rattle.paper.specs.Reading.{Said, first_said}

-- 1: "room shorter than" the text
unfoldable pub text_checks : List ℕ → ℕ → List Check
text_checks t room = check No.NoRoom (offends (ltb room (length t)) 0) ∷ []

abbrev pub text_written : List ℕ → Answer → Written
text_written t (Ok _) = Ok (length t)
text_written t (Err r) = Err r

-- "Later room keeps its contents"; a refusal "leaves all buffers unchanged"
abbrev pub text_room_for : List ℕ → Answer → List ℕ → List ℕ
text_room_for t (Ok _) room = t ++ drop (length t) room
text_room_for t (Err r) room = room

unfoldable pub written_text : List ℕ → List ℕ → Written
written_text t room = text_written t (first_of (text_checks t (length room)))

unfoldable pub text_said : List ℕ → List ℕ → Said
text_said t room = first_said (text_checks t (length room)) (length t ∷ [])

unfoldable pub text_room : List ℕ → List ℕ → List ℕ
text_room t room = text_room_for t (first_of (text_checks t (length room))) room

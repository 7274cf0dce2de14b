-- The lines of solids in the parts in which they are put, and what is asked.
use Rattle.std.specs.Prelude.{Bool, true, false, List, [], ◌++◌, ℕ, ◌*◌, ◌≤◌, length}
use Rattle.sets.specs.Word.{dig}
use Rattle.paper.specs.Numbers.{solid_words}
use Rattle.paper.specs.Record.{taken_in, turned_in, six_in}
use Rattle.paper.specs.Desk.{text, decimal, signed, faces_text, solids_text}
use Rattle.desk_lines.specs.Put.{Fits, pair_text}

-- candidate k: nothing where it is not taken
abbrev pub face_if : Bool → Bool → ℕ → List ℕ
face_if true turned k = signed turned ++ decimal k
face_if false turned k = []

abbrev pub face_text : ℕ → List ℕ → List ℕ
face_text k ws = face_if (dig (taken_in ws) k) (dig (turned_in ws) k) k

abbrev pub words_text : List ℕ → List ℕ
words_text ws = faces_text 0 (taken_in ws) (turned_in ws)

-- a solid's line, as two fields, a word, the faces and the line's end
abbrev pub line_text : ℕ → List ℕ → List ℕ
line_text i ws =
    pair_text (text "solid ") i (text " sixvolumes ") (six_in ws) ++ text " faces" ++ words_text ws ++ text "\n"

pub record SolidsAt (n : ℕ) (ws : List ℕ) (at : ℕ) (room : List ℕ) : Type 0 where
  pub words : solid_words * n ≤ length ws
  pub fits : Fits at (solids_text 1 n ws) room

-- The customer's demands of the desk's text.
use Rattle.std.specs.Prelude.{List, ◌≡◌, ℕ, ◌≤◌, ◌<◌, length, replicate, Ok, Err}
use Rattle.paper.specs.Format.{vertices_in, edges_in, edition_of}
use Rattle.paper.specs.Conversion.{Converted}
use Rattle.paper.specs.Desk.{answer_text}
use Rattle.paper.specs.declared.Refusal.{Refusal}
use Rattle.paper.specs.Refusals.{Written}
use Rattle.desk_text.specs.Texts.{text_room_size}
use Rattle.demands.specs.Input.{sheet}
use Rattle.demands.specs.Table.{one, end, of_written}
use Rattle.demanded.specs.Demanded.{Converts, Stands}

-- what a conversion of the sheet says, with the counts that stand in it
abbrev pub text_of : List ℕ → Converted → List ℕ
text_of s c = answer_text (vertices_in (edition_of s) s) (edges_in (edition_of s) s) c.answer c.solids

pub record Prints (s room₀ : List ℕ) (r : Written) (room : List ℕ) : Type 0 where
  -- "reads one sheet .. and converts it with limit 1,000,000": demands 1 and 2 hold of what is told
  pub conversion : Converted
  pub converts : Converts (sheet s) 1000000 (replicate 832 0) (replicate 24 0) conversion.answer conversion.faces conversion.solids
  -- demand 1: 1 where the room is shorter than the text, and then it is as it came; otherwise the text stands in it
  pub first : one 1 (length room₀ < length (text_of s conversion)) end (of_written r)
  pub kept : (f : Refusal) → r ≡ Err f → room ≡ room₀
  pub printed : (n : ℕ) → r ≡ Ok n → Stands (text_of s conversion) room₀ n room
  -- no text is longer
  pub enough : length (text_of s conversion) ≤ text_room_size

-- A report written to the start of the two lent rooms.
use Rattle.std.specs.Prelude.{List, ◌≡◌, ℕ, ◌*◌}
use Rattle.paper.specs.Numbers.{row_bytes, solid_words}
use Rattle.rooms.specs.Rooms.{copied, Copies}

-- the rows of n candidates and the words of the solids found
pub record Writing (rows : List ℕ) (n : ℕ) (out : List ℕ) (found : ℕ) (faces solids : List ℕ) : Type 0 where
  pub rows_copy : Copies (row_bytes * n) rows faces
  pub words_copy : Copies (solid_words * found) out solids

pub record Wrote (rows : List ℕ) (n : ℕ) (out : List ℕ) (found : ℕ) (faces₀ faces solids₀ solids : List ℕ) : Type 0 where
  pub faces_are : faces ≡ copied (row_bytes * n) rows faces₀
  pub solids_are : solids ≡ copied (solid_words * found) out solids₀

-- What the functions of this crate leave in the room.
use Rattle.std.specs.Prelude.{List, ◌++◌, ℕ, ℤ, drop}
use Rattle.paper.specs.Format.{total, bytes_for, encode}
use Rattle.paper.specs.declared.Format.{Format}

-- the sheet, and later room as before
abbrev pub sheet_in : Format → List ℤ → List ℕ → ℕ → ℕ → List ℕ → List ℕ
sheet_in f xyz ends v e room = encode f xyz ends ++ drop (bytes_for (total f v e)) room

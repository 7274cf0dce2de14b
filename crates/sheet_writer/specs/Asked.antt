-- What the functions of this crate ask of their inputs.
use Rattle.std.specs.Prelude.{◌≡◌, List, ℕ, ◌*◌, ◌/◌, ◌≤◌, ℤ, length}
use Rattle.paper.specs.Refusals.{first_of, Fine}
use Rattle.paper.specs.Format.{coordinate_bits, head, total, bytes_for}
use Rattle.paper.specs.Sheet.{lent_checks}
use Rattle.paper.specs.declared.Format.{Format}
use Rattle.sheet_laws.specs.Near.{Near}
use Rattle.sheet_shape.specs.Narrow.{narrow_bits, Narrow}
use Rattle.sheet_shape.specs.Fields.{Fields}

-- coordinates that fit their fields, and room for those from bit i on
pub record CoordinatesFit (xyz : List ℤ) (room : List ℕ) (i : ℕ) : Type 0 where
  pub near : Near xyz
  pub fields : Fields room i coordinate_bits (length xyz)

-- room for the numbers in fields of w bits from bit i on
pub record NumbersFit (list room : List ℕ) (i w : ℕ) : Type 0 where
  pub narrow : w ≤ narrow_bits
  pub fields : Fields room i w (length list)

-- room for the edition and the counts
pub record HeadRoom (f : Format) (room : List ℕ) : Type 0 where
  pub narrow : Narrow f
  pub long : head f ≤ length room * 8

-- lists that pass 5, 8, 9 and 10, their counts, and room for the sheet
pub record Writable (f : Format) (xyz : List ℤ) (ends room : List ℕ) (v e : ℕ) : Type 0 where
  pub narrow : Narrow f
  pub passes : Fine ≡ first_of (lent_checks xyz ends)
  pub v_is : v ≡ length xyz / 3
  pub e_is : e ≡ length ends / 2
  pub long : bytes_for (total f v e) ≤ length room

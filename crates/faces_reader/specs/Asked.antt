-- What the functions that read a list ask of their arguments. A bit is `near` so that sums in the code are small.
use Rattle.std.specs.Prelude.{List, ℕ, ◌+◌, ◌*◌, ◌≤◌, ◌<◌, length}
use Rattle.paper.specs.Numbers.{most_corners, row_bytes}
use Rattle.paper.specs.declared.Format.{Format}
use Rattle.faces_reader.specs.Face.{Brief}

-- c corners in fields of w bits, from bit i of s on
pub record FaceFields (s : List ℕ) (i w c : ℕ) : Type 0 where
  pub narrow : w ≤ 8
  pub few : c ≤ most_corners
  pub inside : i + w * c ≤ length s * 8
  pub near : i ≤ 8192

-- cell j of the row of these corners
pub record Cell (s : List ℕ) (i w c j : ℕ) : Type 0 where
  pub fields : FaceFields s i w c
  pub known : j < row_bytes

-- and room for that row in rows, from byte p on
pub record PutRow (s : List ℕ) (i w c : ℕ) (rows : List ℕ) (p : ℕ) : Type 0 where
  pub fields : FaceFields s i w c
  pub roomy : p + row_bytes ≤ length rows

-- bit p, at which a face may start, beside a layout that is small enough
pub record FacePlace (f : Format) (p : ℕ) : Type 0 where
  pub brief : Brief f
  pub near : p ≤ 8000

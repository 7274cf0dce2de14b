-- What the functions that write a list ask of their arguments. A bit is `near` so that sums in the code are small.
use Rattle.std.specs.Prelude.{◌≡◌, true, List, ℕ, ◌+◌, ◌*◌, ◌≤◌, ◌<◌, length}
use Rattle.lists.specs.Lists.{all}
use Rattle.paper.specs.Numbers.{most_corners, most_candidates}
use Rattle.paper.specs.Format.{bytes_for}
use Rattle.paper.specs.Loops.{Loop}
use Rattle.paper.specs.FaceList.{span, bits_of}
use Rattle.paper.specs.declared.Format.{Format}
use Rattle.faces_reader.specs.Face.{Brief}
use Rattle.faces_writer.specs.Send.{fits, Weighed}

-- corner j of the c corners that stand in rows from place i on
pub record CornerInRow (rows : List ℕ) (i c j : ℕ) : Type 0 where
  pub inside : i + c ≤ length rows
  pub known : j < c

-- these corners, and room for them in fields of w bits from bit b on
pub record CornerFields (rows : List ℕ) (i c : ℕ) (room : List ℕ) (b w : ℕ) : Type 0 where
  pub inside : i + c ≤ length rows
  pub narrow : w ≤ 8
  pub few : c ≤ most_corners
  pub roomy : b + w * c ≤ length room * 8
  pub near : b ≤ 8192

-- a candidate's number, beside a layout that is small enough
pub record Candidate (f : Format) (k : ℕ) : Type 0 where
  pub brief : Brief f
  pub known : k < most_candidates

-- faces that fit, and room for their bits from bit b on
pub record SendsFrom (f : Format) (fs : List Loop) (room : List ℕ) (b : ℕ) : Type 0 where
  pub brief : Brief f
  pub fit : all (fits f) fs ≡ true
  pub roomy : b + span f fs ≤ length room * 8
  pub near : b ≤ 8000

-- the same of what candidate k gives
pub record SendsOne (f : Format) (k : ℕ) (fs : List Loop) (room : List ℕ) (b : ℕ) : Type 0 where
  pub known : k < most_candidates
  pub faces : SendsFrom f fs room b

-- n faces of b bits that fit, and room for the list of them
pub record SendsList (f : Format) (fs : List Loop) (room : List ℕ) (n b : ℕ) : Type 0 where
  pub brief : Brief f
  pub weighed : Weighed f fs n b
  pub roomy : bytes_for (bits_of f fs) ≤ length room

-- What is said of each answer: a number of the table, a place and values, and that these tell which answer it is.
use Rattle.std.specs.Prelude.{◌≡◌, List, ℕ, ◌≤◌, ◌<◌, ℤ, Err}
use Rattle.paper.specs.Format.{edition_of, edition_for, lent_edition}
use Rattle.paper.specs.Loops.{Loop}
use Rattle.paper.specs.FaceList.{faces_of, sent_of}
use Rattle.paper.specs.Sheet.{written_of, read_sheet}
use Rattle.paper.specs.Reading.{answer_says, written_says, conversion_says, verdict_says, reading_says, reading_of}
use Rattle.paper.specs.declared.Refusal.{Refusal}
use Rattle.paper.specs.Refusals.{value_of, Reading, Written}
use Rattle.paper.specs.declared.Conversion.{Conversion}
use Rattle.demands.specs.Input.{Input, converted, checked}

-- no refusal has the number 0, which says that nothing is refused
pub record NumbersNotZero : Type 0 where
  pub reads : (s : List ℕ) (r : Refusal) → (read_sheet s).answer ≡ Err r → 0 < value_of r.number
  pub writes : (xyz : List ℤ) (ends room : List ℕ) (r : Refusal) → written_of (lent_edition xyz ends) xyz ends room ≡ Err r
      → 0 < value_of r.number
  pub reads_faces : (v : ℕ) (list : List ℕ) (r : Refusal) → (faces_of (edition_of list) v list).answer ≡ Err r → 0 < value_of r.number
  pub sends : (v e : ℕ) (fs : List Loop) (room : List ℕ) (r : Refusal) → sent_of (edition_for v e) fs room ≡ Err r → 0 < value_of r.number
  pub converts : (x : Input) (limit : ℕ) (room solids : List ℕ) (r : Refusal)
      → (converted x limit room solids).answer ≡ Conversion.Refused r → 0 < value_of r.number
  pub checks : (x : Input) (list : List ℕ) (r : Refusal) → checked x list ≡ Err r → 0 < value_of r.number
  -- and none of a conversion has 17 to 19, by which its other ends are said, or 30
  pub below : (x : Input) (limit : ℕ) (room solids : List ℕ) (r : Refusal)
      → (converted x limit room solids).answer ≡ Conversion.Refused r → value_of r.number ≤ 16

-- "a definition gives this paper's number and values for each of its cases": two answers of which the same is said are the same
pub record Told : Type 0 where
  pub sheets : (s t : List ℕ) → answer_says (read_sheet s).answer ≡ answer_says (read_sheet t).answer
      → (read_sheet s).answer ≡ (read_sheet t).answer
  pub faces : (v w : ℕ) (s t : List ℕ)
      → answer_says (faces_of (edition_of s) v s).answer ≡ answer_says (faces_of (edition_of t) w t).answer
      → (faces_of (edition_of s) v s).answer ≡ (faces_of (edition_of t) w t).answer
  pub verdicts : (x y : Input) (s t : List ℕ) → verdict_says (checked x s) ≡ verdict_says (checked y t) → checked x s ≡ checked y t
  pub written : (a b : Written) → written_says a ≡ written_says b → a ≡ b
  pub conversions : (a b : Conversion) → conversion_says a ≡ conversion_says b → a ≡ b
  pub readings : (a b : Reading) → reading_says a ≡ reading_says b → a ≡ b

-- a reading has the number 0 only where there is exactly one solid, so no volume follows from a refusal
abbrev pub VolumeOfOne : Type 0
VolumeOfOne = (x : Input) (limit : ℕ) (room solids : List ℕ) → (reading_says (reading_of (converted x limit room solids).answer)).number ≡ 0
    → (l c work six : ℕ) × ((converted x limit room solids).answer ≡ Conversion.One l c work six)

-- Document 01, the numbers and values of each answer, and "The reading of a conversion's answer".
use Rattle.std.specs.Prelude.{not, List, [], ◌∷◌, ℕ, ◌/◌, ℤ, pos, length, Float, Ok, Err}
use Rattle.std.proofs.Math.Option.{Option, none, some}
use Rattle.std.specs.Float.{binary64}
use Rattle.std.specs.Float.Ieee.{div, of_int}
use Rattle.paper.specs.Refusals as No
use Rattle.paper.specs.Refusals.{value_of, Check, check, offends, Answer, Reading, Verdict, Written}
use Rattle.paper.specs.Format.{total, bytes_for}
use Rattle.paper.specs.Sheet.{sheet_checks, writer_checks}
use Rattle.paper.specs.Loops.{Loop}
use Rattle.paper.specs.FaceList.{bits_of, well_shaped, send_checks}
use Rattle.paper.specs.declared.Format.{Format}
use Rattle.paper.specs.declared.Refusal.{Refusal}
use Rattle.paper.specs.declared.Conversion.{Conversion}

-- ---- "a definition gives this paper's number and values for each of its cases": the number of the table, 0 where nothing is refused;
-- its place; and what else comes back

pub record Said : Type 0 where
  pub number : ℕ
  pub place : ℕ
  pub values : List ℕ

abbrev pub refused : Refusal → Said
refused r = record { number = value_of r.number; place = r.place; values = [] }

abbrev pub fine : List ℕ → Said
fine vs = record { number = 0; place = 0; values = vs }

-- "the first that applies is the answer", as it is said; the values are those that come back where none applies
unfoldable pub first_said : List Check → List ℕ → Said
first_said [] vs = fine vs
first_said (check n none ∷ cs) vs = first_said cs vs
first_said (check n (some p) ∷ cs) vs = record { number = value_of n; place = p; values = [] }

-- a sheet, a lent drawing or a face list that is read
abbrev pub answer_says : Answer → Said
answer_says (Ok _) = fine []
answer_says (Err r) = refused r

-- the length of what was written
abbrev pub written_says : Written → Said
written_says (Ok n) = fine (n ∷ [])
written_says (Err r) = refused r

-- "A report, and each of 17 to 19, also returns the loop and candidate counts": then the work, the number of solids, and six volumes
-- where there is one. The place of 17 to 19 is the work.
abbrev pub conversion_says : Conversion → Said
conversion_says (Conversion.One l c w six) = fine (l ∷ c ∷ w ∷ 1 ∷ six ∷ [])
conversion_says (Conversion.Several l c w n) = fine (l ∷ c ∷ w ∷ n ∷ [])
conversion_says (Conversion.NoSolid l c w) = record { number = value_of No.NoSolid; place = w; values = l ∷ c ∷ [] }
conversion_says (Conversion.Many l c w) = record { number = value_of No.Many; place = w; values = l ∷ c ∷ [] }
conversion_says (Conversion.TooLong l c w) = record { number = value_of No.TooLong; place = w; values = l ∷ c ∷ [] }
conversion_says (Conversion.Refused r) = refused r

abbrev pub verdict_says : Verdict → Said
verdict_says (Ok _) = fine []
verdict_says (Err r) = refused r

-- ---- what is said of a sheet and of a face list that are read, and of those that are written

unfoldable pub sheet_said : Format → List ℕ → Said
sheet_said f s = first_said (sheet_checks f s) []

unfoldable pub written_said : Format → List ℤ → List ℕ → List ℕ → Said
written_said f xyz ends room =
    first_said (writer_checks f xyz ends (length room)) (bytes_for (total f (length xyz / 3) (length ends / 2)) ∷ [])

unfoldable pub faces_said : Format → ℕ → List ℕ → Said
faces_said f v s = first_said (check No.ShellShape (offends (not (well_shaped f v s)) 0) ∷ []) []

unfoldable pub sent_said : Format → List Loop → List ℕ → Said
sent_said f fs room = first_said (send_checks f fs (length room)) (bytes_for (bits_of f fs) ∷ [])

-- ---- "either a volume in cubic metres as a double or "not assessed" with a number from the table, or 30 where two to eight solids
-- exist, equal volumes included"

-- "The volume is six volumes divided by 6,000,000, both held exactly, rounded once."
unfoldable pub volume : ℕ → Float
volume six = div binary64 (of_int binary64 (pos six)) (of_int binary64 (pos 6000000))

-- what a reading says: the number that says why nothing was assessed, 0 where there is a volume; and the volume
pub record Shown : Type 0 where
  pub number : ℕ
  pub shown : Option Float

abbrev pub reading_says : Reading → Shown
reading_says (Ok v) = record { number = 0; shown = some v }
reading_says (Err n) = record { number = value_of n; shown = none }

unfoldable pub reading_of : Conversion → Reading
unfolding volume
reading_of (Conversion.One l c w six) = Ok (volume six)
reading_of (Conversion.Several l c w n) = Err No.Ambiguous
reading_of (Conversion.NoSolid l c w) = Err No.NoSolid
reading_of (Conversion.Many l c w) = Err No.Many
reading_of (Conversion.TooLong l c w) = Err No.TooLong
reading_of (Conversion.Refused r) = Err r.number

-- What is said of a sheet that is read and of one that is written: the number and place of the first check.
use mathlib.Core.Path.{◌≡◌, refl}
use mathlib.Core.List.{List}
use Prim.Native.Nat.{ℕ, ◌/◌}
use lib.IntN.{ℤ}
use lib.ListN.{length}
use Rattle.paper_laws.proofs.Answers.{answer-said, written-said}
use Rattle.paper.specs.Format.{total, bytes_for}
use Rattle.paper.specs.Sheet.{sheet_checks, writer_checks, sheet_of, written_for, written_of}
use Rattle.paper.specs.Reading.{answer_says, written_says, sheet_said, written_said}
use Rattle.paper.specs.declared.Format.{Format}

pub sheet-said : (f : Format) (s : List ℕ) → answer_says (sheet_of f s).answer ≡ sheet_said f s
unfolding sheet_of sheet_said
sheet-said f s = answer-said (sheet_checks f s)

pub sheet_written_said : (f : Format) (xyz : List ℤ) (ends room : List ℕ)
    → written_says (written_of f xyz ends room) ≡ written_said f xyz ends room
unfolding written_of written_said
sheet_written_said f xyz ends room =
    written-said (written_for f xyz ends) (bytes_for (total f (length xyz / 3) (length ends / 2))) refl (λ r. refl)
    (writer_checks f xyz ends (length room))

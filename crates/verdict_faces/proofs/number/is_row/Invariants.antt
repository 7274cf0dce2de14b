-- `verdict_faces::number::is_row`: rows of another count are other loops; of one count the loop keeps that what is left of the corners
-- decides.
use Rattle.paper.specs.FaceList.{row_at}
use Rattle.paper.specs.Verdict.{normal_form}
use Rattle.verdict_faces.proofs.Same.{SameLeft}
use Rattle.verdict_faces.proofs.number.is_row.Given as goal

abbrev pub invariant-loop-i : goal.invariant-loop-i
invariant-loop-i l = SameLeft (normal_form (row_at l.faces l.r)) (row_at l.rows l.k) l.i

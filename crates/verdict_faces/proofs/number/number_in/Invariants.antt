-- `verdict_faces::number::number_in`: the loop keeps that the number is k and what is left of the rows.
use Rattle.verdict_faces.proofs.Same.{FirstLeft}
use Rattle.verdict_faces.proofs.number.number_in.Given as goal

abbrev pub invariant-loop-k : goal.invariant-loop-k
invariant-loop-k l = FirstLeft l.faces l.r l.rows l.n l.k

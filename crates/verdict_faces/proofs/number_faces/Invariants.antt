-- `verdict_faces::number_faces`: the loop keeps the numbers and the marks of the faces passed, each of which is a candidate.
use Rattle.verdict_faces.proofs.Passing.{Numbered}
use Rattle.verdict_faces.proofs.number_faces.Given as goal

abbrev pub invariant-loop-i : goal.invariant-loop-i
invariant-loop-i l = Numbered l.faces l.count l.rows l.n l.initial.numbers l.numbers l.against l.i

-- `verdict_faces::take_each`: the loop keeps that the set has the numbers passed, and that none of them was there twice.
use Rattle.verdict_faces.specs.Passes.{Takes}
use Rattle.verdict_faces.proofs.Passing.{Passed}
use Rattle.verdict_faces.proofs.take_each.Given as goal

abbrev pub invariant-loop-i : goal.invariant-loop-i
invariant-loop-i l = (q : Takes l.numbers l.count) → Passed q l.taken l.i

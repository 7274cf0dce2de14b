-- `verdict_tests::faces::pieces`: the loop keeps that what is left to search holds the whole answer, for every list of which the set
-- has the faces joined to face 0; those of `from_first` are (`AtFace`).
use Rattle.verdict_tests.proofs.AtFace.{unjoined, Reaching}
use Rattle.verdict_tests.proofs.Searching.{Asking}
use Rattle.verdict_tests.proofs.faces.pieces.Given as goal

abbrev pub invariant-loop-i : goal.invariant-loop-i
invariant-loop-i l = Asking (Reaching l.numbers l.count l.reached) unjoined l.count l.i

-- `verdict_tests::faces::clash`: the loop keeps that what is left to search holds the whole answer; of each face the word of its
-- clashes is asked (`AtFace`).
use Rattle.verdict_tests.specs.Tests.{Clashing}
use Rattle.verdict_tests.proofs.AtFace.{clashing}
use Rattle.verdict_tests.proofs.Searching.{Asking}
use Rattle.verdict_tests.proofs.faces.clash.Given as goal

abbrev pub invariant-loop-f : goal.invariant-loop-f
invariant-loop-f l = Asking (Clashing l.clashes l.numbers l.count l.taken) clashing l.count l.f

-- `verdict_tests::edges::direction`: the loop keeps that what is left to search holds the whole answer; an edge is asked as the walk's
-- leaf asks it (`AtEdge`).
use Rattle.verdict_tests.specs.Tests.{Running}
use Rattle.verdict_tests.proofs.AtEdge.{not_once}
use Rattle.verdict_tests.proofs.Searching.{Asking}
use Rattle.verdict_tests.proofs.edges.direction.Given as goal

abbrev pub invariant-loop-e : goal.invariant-loop-e
invariant-loop-e l = Asking (Running l.on l.up l.m l.taken l.turned) not_once l.m l.e

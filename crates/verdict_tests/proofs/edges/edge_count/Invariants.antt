-- `verdict_tests::edges::edge_count`: the loop keeps that what is left to search holds the whole answer; of each edge the ones are
-- counted (`AtEdge`).
use Rattle.verdict_tests.specs.Tests.{Counting}
use Rattle.verdict_tests.proofs.AtEdge.{not_two}
use Rattle.verdict_tests.proofs.Searching.{Asking}
use Rattle.verdict_tests.proofs.edges.edge_count.Given as goal

abbrev pub invariant-loop-e : goal.invariant-loop-e
invariant-loop-e l = Asking (Counting l.on l.m l.taken) not_two l.m l.e

-- `verdict_tests::edges::edge_count`: the loop keeps that what is left to search holds the whole answer; of each edge the ones are
-- counted (`AtEdge`).
use native.Mathlib.Omega.{arith}
use mathlib.Core.Bool.{Bool, true, false, not}
use mathlib.Core.Path.{◌≡◌, ◌∙◌}
use lib.Dec.{eqb}
use borrow.Author.Tests.{eq-eqb, ne_eqb}
use Rattle.paper.specs.Refusals as No
use Rattle.verdict_tests.specs.Tests.{Counting}
use Rattle.verdict_tests.proofs.AtEdge.{not_two, finds_23, two_at}
use Rattle.verdict_tests.proofs.Searching.{Offends, asking_start, asking_next, asking_hit, asking_end}
use Rattle.verdict_tests.proofs.edges.edge_count.Goals as goal
use Rattle.verdict_tests.proofs.edges.edge_count.Goals.{After-count}

-- the code's test of edge e
here : (c : After-count) (b : Bool) → eqb c.count.result 2 ≡ b
    → let a = c.args in Offends (Counting a.on.now a.m a.taken) not_two c.loop-e.e (not b)
here c b q =
    let a = c.args in
    two_at a.on.now a.m a.taken c.loop-e.e (omega arith) c.at.ensures c.and-mine.ensures c.count.ensures b q

pub loop-e-init : goal.loop-e-init
loop-e-init c = asking_start _ _ _

pub returns-then-count-ne2 : goal.returns-then-count-ne2
returns-then-count-ne2 c =
    let a = c.args in
    let q = here (goal.at.returns-then-count-ne2 c).After-count false (ne_eqb c.count.result 2 (λ z. omega (arith, z))) in
    λ t l w.
    c.refused.ensures
    ∙ asking_hit _ _ _ No.EdgeCount _ (finds_23 a.on.now a.m a.taken) c.loop-e.e (omega arith) c.loop-e.invariant q t l w

pub loop-e-preserved : goal.loop-e-preserved
loop-e-preserved c =
    asking_next _ _ _ c.loop-e.e (omega arith) c.loop-e.invariant
    (here (goal.at.loop-e-preserved c).After-count true (eq-eqb c.count.result 2 (omega arith)))

pub returns : goal.returns
returns c =
    let a = c.args in
    asking_end _ _ _ No.EdgeCount _ (finds_23 a.on.now a.m a.taken) c.loop-e.e (omega arith) c.loop-e.invariant

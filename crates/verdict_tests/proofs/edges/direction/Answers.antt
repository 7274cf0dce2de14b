-- `verdict_tests::edges::direction`: the loop keeps that what is left to search holds the whole answer; an edge is asked as the walk's
-- leaf asks it (`AtEdge`).
use native.Mathlib.Omega.{arith}
use mathlib.Core.Bool.{Bool, not}
use mathlib.Core.Path.{◌≡◌, ◌∙◌, ap}
use Rattle.paper.specs.Refusals as No
use Rattle.verdict_tests.specs.Tests.{Running}
use Rattle.verdict_tests.proofs.AtEdge.{not_once, finds_24, way_at}
use Rattle.verdict_tests.proofs.Searching.{Offends, asking_start, asking_next, asking_hit, asking_end}
use Rattle.verdict_tests.proofs.edges.direction.Goals as goal
use Rattle.verdict_tests.proofs.edges.direction.Goals.{After-once_each_way}

-- the code's test of edge e
here : (c : After-once_each_way) {b : Bool} → not c.once_each_way.result ≡ b
    → let a = c.args in Offends (Running a.on.now a.up.now a.m a.taken a.turned) not_once c.loop-e.e b
here c q =
    let a = c.args in
    way_at a.on.now a.up.now a.m a.taken a.turned c.loop-e.e (omega arith) c.at-mask.ensures c.at.ensures c.once_each_way.ensures q

pub loop-e-init : goal.loop-e-init
loop-e-init c = asking_start _ _ _

pub returns-then-not-once_each_way : goal.returns-then-not-once_each_way
returns-then-not-once_each_way c =
    let a = c.args in
    let q = here (goal.at.returns-then-not-once_each_way c).After-once_each_way (ap not c.if-not-once_each_way.true) in
    λ t l w.
    c.refused.ensures
    ∙ asking_hit _ _ _ No.Direction _ (finds_24 a.on.now a.up.now a.m a.taken a.turned) c.loop-e.e (omega arith) c.loop-e.invariant q t l w

pub loop-e-preserved : goal.loop-e-preserved
loop-e-preserved c =
    asking_next _ _ _ c.loop-e.e (omega arith) c.loop-e.invariant
    (here (goal.at.loop-e-preserved c).After-once_each_way (ap not c.if-not-once_each_way.false))

pub returns : goal.returns
returns c =
    let a = c.args in
    asking_end _ _ _ No.Direction _ (finds_24 a.on.now a.up.now a.m a.taken a.turned) c.loop-e.e (omega arith) c.loop-e.invariant

-- `verdict_tests::faces::clash`: the loop keeps that what is left to search holds the whole answer; of each face the word of its
-- clashes is asked (`AtFace`).
use native.Mathlib.Omega.{arith}
use mathlib.Core.Bool.{Bool, not}
use mathlib.Core.Path.{◌≡◌, ◌∙◌, ap}
use Rattle.paper.specs.Refusals as No
use Rattle.verdict_tests.specs.Tests.{Clashing}
use Rattle.verdict_tests.proofs.AtFace.{clashing, finds_27, clash-at}
use Rattle.verdict_tests.proofs.Searching.{Offends, asking_start, asking_next, asking_hit, asking_end}
use Rattle.verdict_tests.proofs.faces.clash.Goals as goal
use Rattle.verdict_tests.proofs.faces.clash.Goals.{After-is_empty}

-- the code's test of face f
here : (c : After-is_empty) {b : Bool} → not c.is_empty.result ≡ b
    → let a = c.args in Offends (Clashing a.clashes.now a.numbers.now a.count a.taken) clashing c.loop-f.f b
here c q =
    let a = c.args in
    clash-at a.clashes.now a.numbers.now a.count a.taken c.requires.held c.loop-f.f (omega arith)
    c.wide.ensures c.at.ensures c.and-clashing.ensures c.is_empty.ensures q

pub loop-f-init : goal.loop-f-init
loop-f-init c = asking_start _ _ _

pub at-requires : goal.at-requires
at-requires c = let h = c.requires.narrow c.loop-f.f (omega arith) in omega (arith, h, c.wide.ensures)

pub returns-then-not-is_empty : goal.returns-then-not-is_empty
returns-then-not-is_empty c =
    let a = c.args in
    let finds = finds_27 a.clashes.now a.numbers.now a.count a.taken c.requires.held in
    let q = here (goal.at.returns-then-not-is_empty c).After-is_empty (ap not c.if-not-is_empty.true) in
    λ t l w. c.refused.ensures ∙ asking_hit _ _ _ No.Clash _ finds c.loop-f.f (omega arith) c.loop-f.invariant q t l w

pub loop-f-preserved : goal.loop-f-preserved
loop-f-preserved c =
    asking_next _ _ _ c.loop-f.f (omega arith) c.loop-f.invariant
    (here (goal.at.loop-f-preserved c).After-is_empty (ap not c.if-not-is_empty.false))

pub returns : goal.returns
returns c =
    let a = c.args in
    let finds = finds_27 a.clashes.now a.numbers.now a.count a.taken c.requires.held in
    asking_end _ _ _ No.Clash _ finds c.loop-f.f (omega arith) c.loop-f.invariant

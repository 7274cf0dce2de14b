-- `verdict_tests::faces::pieces`: the loop keeps that what is left to search holds the whole answer, for every list of which the set
-- has the faces joined to face 0; those of `from_first` are (`AtFace`).
use native.Mathlib.Omega.{arith}
use mathlib.Core.Bool.{Bool, not}
use mathlib.Core.Path.{◌≡◌, ◌∙◌, ap}
use Rattle.paper.specs.Refusals as No
use Rattle.verdict_tests.proofs.AtFace.{unjoined, Reaching, reaches, finds_25, joined_at}
use Rattle.verdict_tests.proofs.Searching.{Offends, asking_start, asking_next, asking_hit, asking_end}
use Rattle.verdict_tests.proofs.faces.pieces.Goals as goal
use Rattle.verdict_tests.proofs.faces.pieces.Goals.{After-has}

-- the code's test of face i
here : (c : After-has) {b : Bool} → not c.has.result ≡ b
    → Offends (Reaching c.args.numbers.now c.args.count c.from_first-g.result.reached) unjoined c.loop-i.i b
here c q =
    let a = c.args in
    joined_at a.numbers.now a.count c.requires.held c.from_first-g.result.reached c.loop-i.i (omega arith)
    c.wide.ensures c.has.ensures q

pub from_first-g-requires : goal.from_first-g-requires
from_first-g-requires c = c.requires.narrow 0 c.requires.some

pub loop-i-init : goal.loop-i-init
loop-i-init c = asking_start _ _ _

pub has-requires : goal.has-requires
has-requires c = let h = c.requires.narrow c.loop-i.i (omega arith) in omega (arith, h, c.wide.ensures)

pub returns-then-not-has : goal.returns-then-not-has
returns-then-not-has c =
    let a = c.args in
    let g = c.from_first-g in
    let finds = finds_25 a.numbers.now a.count c.requires.held g.result.reached in
    let meant = reaches a.numbers.now a.count c.requires.held c.requires.some g.ensures in
    let q = here (goal.at.returns-then-not-has c).After-has (ap not c.if-not-has.true) in
    λ t l w. c.refused.ensures ∙ asking_hit _ _ _ No.Pieces _ finds c.loop-i.i (omega arith) c.loop-i.invariant q t l (meant t l w)

pub loop-i-preserved : goal.loop-i-preserved
loop-i-preserved c =
    asking_next _ _ _ c.loop-i.i (omega arith) c.loop-i.invariant
    (here (goal.at.loop-i-preserved c).After-has (ap not c.if-not-has.false))

pub returns : goal.returns
returns c =
    let a = c.args in
    let g = c.from_first-g in
    let finds = finds_25 a.numbers.now a.count c.requires.held g.result.reached in
    let meant = reaches a.numbers.now a.count c.requires.held c.requires.some g.ensures in
    λ t l w. asking_end _ _ _ No.Pieces _ finds c.loop-i.i (omega arith) c.loop-i.invariant t l (meant t l w)

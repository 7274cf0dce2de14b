-- `walk_state::settled`: the loop keeps that what is left of the whole sweeps ends as they do from the first state (`Sweeping`).
-- Each edge passed leaves fewer undecided, or as many and fewer marks.
use Prim.Native.Nat.{◌<◌}
use Rattle.sets.specs.Sets.{wides}
use Rattle.walk_state.proofs.Lowest.{is_none, is_some}
use Rattle.walk_state.proofs.Sweeping.{sweeping_start, sweeping_end, sweeping_broken, sweeping_less, sweeping_more}
use Rattle.walk_state.proofs.settled.Goals as goal
use Rattle.walk_state.proofs.settled.Goals.{In-loop-marks}

-- in a turn an edge is ahead
some-ahead : (c : In-loop-marks) → 0 < wides.size c.loop-marks.marks.ahead
some-ahead c = is_some wides c.loop-marks.marks.ahead c.is_empty.ensures c.loop-marks-test.true

pub loop-marks-init : goal.loop-marks-init
loop-marks-init c = let a = c.args in sweeping_start a.on.now a.sides.now a.s a.changed c.none.ensures

pub lowest-e-requires : goal.lowest-e-requires
lowest-e-requires c = some-ahead (goal.at.lowest-e-requires c).In-loop-marks

pub returns-in_err-change : goal.returns-in_err-change
returns-in_err-change c =
    let a = c.args in
    rw c.from_residual.ensures (sweeping_broken a.on.now a.sides.now a.s a.changed c.loop-marks.invariant
    (some-ahead (goal.at.returns-in_err-change c).In-loop-marks) c.lowest-e.ensures c.at.ensures c.in_err-change.ensures)

pub marked-marks-requires : goal.marked-marks-requires
marked-marks-requires c = some-ahead (goal.at.marked-marks-requires c).In-loop-marks

pub loop-marks-smaller : goal.loop-marks-smaller
loop-marks-smaller c =
    let a = c.args in
    sweeping_less a.on.now a.sides.now a.s a.changed c.loop-marks.invariant (some-ahead (goal.at.loop-marks-smaller c).In-loop-marks)
    c.lowest-e.ensures c.at.ensures c.in_ok-change.ensures c.marked-marks.ensures

pub loop-marks-preserved : goal.loop-marks-preserved
loop-marks-preserved c =
    let a = c.args in
    sweeping_more a.on.now a.sides.now a.s a.changed c.loop-marks.invariant (some-ahead (goal.at.loop-marks-preserved c).In-loop-marks)
    c.lowest-e.ensures c.at.ensures c.in_ok-change.ensures c.marked-marks.ensures

pub returns : goal.returns
returns c =
    let a = c.args in
    sweeping_end a.on.now a.sides.now a.s a.changed c.loop-marks.invariant
    (is_none wides c.loop-marks.marks.ahead c.is_empty.ensures c.loop-marks-test.false)

-- `walk_state::settled`: the loop keeps that what is left of the whole sweeps ends as they do from the first state (`Sweeping`).
-- Each edge passed leaves fewer undecided, or as many and fewer marks.
use Rattle.walk_state.proofs.Sweeping.{Sweeping, togo}
use Rattle.walk_state.proofs.settled.Given as goal

abbrev pub invariant-loop-marks : goal.invariant-loop-marks
invariant-loop-marks l = Sweeping l.on l.sides l.initial.state l.initial.marks.ahead l.state l.marks

abbrev pub decreases-loop-marks : goal.decreases-loop-marks
decreases-loop-marks l = togo l.state l.marks

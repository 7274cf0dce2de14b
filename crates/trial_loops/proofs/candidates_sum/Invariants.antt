-- trial_loops/proofs/candidates_sum/Invariants.antt
-- `trial_loops::candidates_sum`: the loop keeps that the checksum is below the prime.
use Rattle.std.proofs.Common.{◌<◌}
use Rattle.trial_loops.specs.Sums.{prime}
use Rattle.trial_loops.proofs.candidates_sum.Given as goal

abbrev pub invariant-loop-row : goal.invariant-loop-row
invariant-loop-row l = l.s < prime

-- trial_loops/proofs/more_row/Invariants.antt
-- `trial_loops::more_row`: the loop keeps that the checksum is below the prime.
use Rattle.std.proofs.Common.{◌<◌}
use Rattle.trial_loops.specs.Sums.{prime}
use Rattle.trial_loops.proofs.more_row.Given as goal

abbrev pub invariant-loop-byte : goal.invariant-loop-byte
invariant-loop-byte l = l.s < prime

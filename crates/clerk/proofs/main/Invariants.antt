-- clerk/proofs/main/Invariants.antt
-- `clerk::main`: the loop has one turn less left after each.
use Rattle.clerk.proofs.main.Given as goal

abbrev pub decreases-loop-left : goal.decreases-loop-left
decreases-loop-left l = l.left

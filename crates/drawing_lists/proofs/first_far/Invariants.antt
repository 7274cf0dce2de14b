-- `drawing_lists::first_far`: the loop keeps that what is left to search holds the whole answer.
use Prim.Native.Nat.{◌≤◌}
use lib.ListN.{length}
use Rattle.lists.proofs.Search.{LowestLeft}
use Rattle.paper.specs.Sheet.{far_at}
use Rattle.drawing_lists.proofs.first_far.Given as goal

abbrev pub invariant-loop-i : goal.invariant-loop-i
invariant-loop-i l = (l.i ≤ length l.xyz) × LowestLeft (far_at l.xyz) (length l.xyz) l.i

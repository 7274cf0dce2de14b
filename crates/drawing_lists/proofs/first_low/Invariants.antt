-- `drawing_lists::first_low`: the loop keeps that what is left to search holds the whole answer.
use mathlib.Core.Path.{◌≡◌}
use Prim.Native.Nat.{◌≤◌, ◌/◌}
use lib.ListN.{length}
use Rattle.lists.proofs.Search.{LowestLeft}
use Rattle.paper.specs.Sheet.{low_at}
use Rattle.drawing_lists.proofs.first_low.Given as goal

abbrev pub invariant-loop-e : goal.invariant-loop-e
invariant-loop-e l = (l.e ≤ l.n) × (l.n ≡ length l.ends / 2) × LowestLeft (low_at l.ends) (length l.ends / 2) l.e

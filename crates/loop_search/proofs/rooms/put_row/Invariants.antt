-- `loop_search::rooms::put_row`: behind the corner count, the loop keeps that the first i cells of the path are pasted.
use mathlib.Core.List.{List}
use mathlib.Core.Path.{◌≡◌}
use Prim.Native.Nat.{ℕ, ◌≤◌, ◌+◌}
use lib.Seq.{paste}
use Rattle.paper.specs.Numbers.{most_corners}
use Rattle.loop_search.proofs.rooms.put_row.Given as goal

-- i cells of the path are written: the table has become last
pub record Filling (path table : List ℕ) (at : ℕ) (last : List ℕ) (i : ℕ) : Type 0 where
  pub reached : i ≤ most_corners
  pub pasted : last ≡ paste table (at + 1) path i

abbrev pub invariant-loop-i : goal.invariant-loop-i
invariant-loop-i l = Filling l.path l.initial.table l.at l.table l.i

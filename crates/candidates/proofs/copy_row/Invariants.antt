-- `candidates::copy_row`: the loop keeps that the first i bytes of the row are pasted.
use mathlib.Core.Path.{◌≡◌}
use Prim.Native.Nat.{◌*◌, ◌≤◌}
use lib.Seq.{paste}
use Rattle.paper.specs.Numbers.{row_bytes}
use Rattle.candidates.specs.Keeps.{row_in}
use Rattle.candidates.proofs.copy_row.Given as goal

abbrev pub invariant-loop-i : goal.invariant-loop-i
invariant-loop-i l = (l.i ≤ row_bytes) × (l.rows ≡ paste l.initial.rows (row_bytes * l.c) (row_in l.table l.k) l.i)

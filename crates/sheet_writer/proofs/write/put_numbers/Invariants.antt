-- `sheet_writer::write::put_numbers`: the loop keeps that the first k numbers stand in their fields.
use mathlib.Core.Path.{◌≡◌}
use Prim.Native.Nat.{◌≤◌}
use lib.ListN.{length, take}
use Rattle.pack.specs.Bits.{run, Put}
use Rattle.sheet_writer.proofs.write.put_numbers.Given as goal

abbrev pub invariant-loop-k : goal.invariant-loop-k
invariant-loop-k l = (l.k ≤ length l.list) × Put l.initial.room l.room l.i (run l.w (take l.k l.list)) × (length l.room ≡ length l.initial.room)

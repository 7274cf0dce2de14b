-- `sheet_writer::write::put_coordinates`: the loop keeps that the first k coordinates stand in their fields.
use mathlib.Core.Path.{◌≡◌}
use mathlib.Core.List.{List, map}
use Prim.Native.Nat.{ℕ, ◌≤◌}
use lib.ListN.{length, take}
use lib.IntN.{ℤ}
use Rattle.pack.specs.Bits.{run, Put}
use Rattle.paper.specs.Format.{coordinate_bits, on_sheet}
use Rattle.sheet_writer.proofs.write.put_coordinates.Given as goal

-- the numbers of the first k coordinates, as bits
abbrev pub up_to : ℕ → List ℤ → List ℕ
up_to k xyz = run coordinate_bits (take k (map on_sheet xyz))

abbrev pub invariant-loop-k : goal.invariant-loop-k
invariant-loop-k l = (l.k ≤ length l.xyz) × Put l.initial.room l.room l.i (up_to l.k l.xyz) × (length l.room ≡ length l.initial.room)

-- `sheet_reader::read::coordinates`: the loop keeps that the first k coordinates stand in the list, and zeros behind them.
use mathlib.Core.Path.{◌≡◌}
use mathlib.Core.List.{List, map}
use Prim.Native.Nat.{ℕ, ◌≤◌}
use lib.IntN.{ℤ}
use Rattle.pack.specs.Bits.{fields_at}
use Rattle.paper.specs.Format.{coordinate_bits, coordinate}
use Rattle.sheet_reader.specs.Kept.{held_xyz}
use Rattle.sheet_reader.proofs.read.coordinates.Given as goal

-- the first k coordinates from bit i on
abbrev pub up_to : List ℕ → ℕ → ℕ → List ℤ
up_to s i k = map coordinate (fields_at s i coordinate_bits k)

abbrev pub invariant-loop-k : goal.invariant-loop-k
invariant-loop-k l = (l.k ≤ l.n) × (l.xyz ≡ held_xyz (up_to l.s l.i l.k))

-- `sheet_reader::read::numbers`: the loop keeps that the first k numbers stand in the list, and zeros behind them.
use mathlib.Core.Path.{◌≡◌}
use Prim.Native.Nat.{◌≤◌}
use Rattle.pack.specs.Bits.{fields_at}
use Rattle.sheet_reader.specs.Kept.{held_ends}
use Rattle.sheet_reader.proofs.read.numbers.Given as goal

abbrev pub invariant-loop-k : goal.invariant-loop-k
invariant-loop-k l = (l.k ≤ l.n) × (l.ends ≡ held_ends (fields_at l.s l.i l.w l.k))

-- `polygon::rings::normal`: the loop keeps that the sum is that of the first j sides, and that a is corner j.
use mathlib.Core.Path.{◌≡◌}
use Prim.Native.Nat.{◌≤◌}
use lib.ListN.{length}
use Rattle.polygon.specs.Rings.{corner_of, ring}
use Rattle.polygon.proofs.Areas.{normal_to}
use Rattle.polygon.proofs.rings.normal.Given as goal

abbrev pub invariant-loop-j : goal.invariant-loop-j
invariant-loop-j l = (l.j ≤ l.n) × (l.n ≡ length (ring l.xyz l.table l.r)) × (l.sum ≡ normal_to (ring l.xyz l.table l.r) l.j) × (l.a ≡ corner_of (ring l.xyz l.table l.r) l.j)

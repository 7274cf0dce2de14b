-- `clash_fold::is_corner`: the loop keeps that what is left of the row decides, since no corner before is the point.
use mathlib.Core.Path.{◌≡◌}
use Prim.Native.Nat.{◌≤◌}
use lib.ListN.{length}
use Rattle.lists.proofs.Search.{Left}
use Rattle.lists.specs.Lists.{any}
use Rattle.paper.specs.Points.{same_point}
use Rattle.polygon.specs.Rings.{ring}
use Rattle.clash_fold.proofs.is_corner.Given as goal

abbrev pub invariant-loop-j : goal.invariant-loop-j
invariant-loop-j l = (l.j ≤ l.n) × (l.n ≡ length (ring l.xyz l.table l.r)) × Left (any (same_point l.p)) (ring l.xyz l.table l.r) l.j

-- `clash_fold::folds_at`: the loop keeps that what is left of row f decides, since no corner before bends with u.
use mathlib.Core.Path.{◌≡◌}
use Prim.Native.Nat.{◌≤◌}
use lib.ListN.{length}
use Rattle.lists.proofs.Search.{Left}
use Rattle.lists.specs.Lists.{any}
use Rattle.paper.specs.Clash.{bends}
use Rattle.polygon.specs.Rings.{ring}
use Rattle.clash_fold.proofs.folds_at.Given as goal

abbrev pub invariant-loop-j : goal.invariant-loop-j
invariant-loop-j l = (l.j ≤ l.n) × (l.n ≡ length (ring l.xyz l.table l.f)) × Left (any (bends (ring l.xyz l.table l.f) (ring l.xyz l.table l.g) l.u)) (ring l.xyz l.table l.f) l.j

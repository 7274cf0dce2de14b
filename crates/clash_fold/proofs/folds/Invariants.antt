-- `clash_fold::folds`: the loop keeps that what is left of row f decides, since the rows fold at no corner before.
use Rattle.clash_fold.specs.Fold.{folds_at}
use mathlib.Core.Path.{◌≡◌}
use Prim.Native.Nat.{◌≤◌}
use lib.ListN.{length}
use Rattle.lists.proofs.Search.{Left}
use Rattle.lists.specs.Lists.{any}
use Rattle.polygon.specs.Rings.{ring}
use Rattle.clash_fold.proofs.folds.Given as goal

abbrev pub invariant-loop-j : goal.invariant-loop-j
invariant-loop-j l = (l.j ≤ l.n) × (l.n ≡ length (ring l.xyz l.table l.f)) × Left (any (folds_at (ring l.xyz l.table l.f) (ring l.xyz l.table l.g))) (ring l.xyz l.table l.f) l.j

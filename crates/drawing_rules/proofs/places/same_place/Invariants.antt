-- `drawing_rules::places::same_place`: the loop keeps that what is left to search holds the whole answer.
use mathlib.Core.Path.{◌≡◌}
use Prim.Native.Nat.{◌≤◌}
use Rattle.lists.proofs.Search.{LowestLeft}
use Rattle.paper.specs.Drawing.{Wire, points_of}
use Rattle.fast_meets.specs.Theorems.{later_at}
use Rattle.drawing_rules.proofs.places.same_place.Given as goal

abbrev pub invariant-loop-u : goal.invariant-loop-u
invariant-loop-u l = (l.u ≤ l.v) × ((d : Wire) → d.vertices ≡ points_of l.xyz → LowestLeft (later_at d) l.v l.u)

-- `drawing_rules::places::shares`: the loop keeps that what is left to search decides, since no vertex between u and w is where u is.
use mathlib.Core.Path.{◌≡◌}
use Prim.Native.Nat.{◌-◌, ◌≤◌}
use Rattle.lists.specs.Lists.{any, from}
use Rattle.drawing_rules.specs.Meets.{share_in, shared_in}
use Rattle.drawing_rules.proofs.places.shares.Given as goal

abbrev pub invariant-loop-w : goal.invariant-loop-w
invariant-loop-w l = (l.w ≤ l.v) × (shared_in l.xyz l.v l.u ≡ any (share_in l.xyz l.u) (from l.w (l.v - l.w)))

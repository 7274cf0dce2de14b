-- `polygon::rings::in_plane`: the loop keeps that what is left of row h decides, since the corners before are in the plane.
use mathlib.Core.Bool.{Bool}
use mathlib.Core.Path.{◌≡◌}
use Prim.Native.Nat.{◌≤◌}
use lib.ListN.{length}
use Rattle.lists.proofs.Search.{Left}
use Rattle.lists.specs.Lists.{all}
use Rattle.paper.specs.Points.{is_zero}
use Rattle.paper.specs.Polygon.{Polygon, plane_side}
use Rattle.paper.specs.declared.Point.{Point}
use Rattle.polygon.specs.Rings.{ring}
use Rattle.polygon.proofs.rings.in_plane.Given as goal

-- p is in the plane of g
abbrev pub Level : Polygon → Point → Bool
Level g p = is_zero (plane_side g p)

abbrev pub invariant-loop-j : goal.invariant-loop-j
invariant-loop-j l = (l.j ≤ l.n) × (l.n ≡ length (ring l.xyz l.table l.h)) × Left (all (Level (ring l.xyz l.table l.g))) (ring l.xyz l.table l.h) l.j

-- `inside::lies`: the loop keeps that the point is on no side before corner j, whether an odd number of them is over it, and that a
-- is corner j as it is seen.
use mathlib.Core.Bool.{Bool}
use mathlib.Core.Path.{◌≡◌}
use Prim.Native.Nat.{ℕ, ◌≤◌}
use lib.IntN.{ℤ}
use lib.ListN.{length, take}
use Rattle.lists.proofs.Search.{Left}
use Rattle.lists.specs.Lists.{any_true, odd_true, sides}
use Rattle.paper.specs.Polygon.{Polygon, seen}
use Rattle.paper.specs.declared.Axis.{Axis}
use Rattle.paper.specs.declared.Flat.{Flat}
use Rattle.polygon.specs.Rings.{corner_of, ring}
use Rattle.inside.proofs.Views.{On, Over}
use Rattle.inside.proofs.lies.Given as goal

-- what the loop keeps, of the ring g seen along v and the point q / d
pub record Passed (g : Polygon) (v : Axis) (q : Flat) (d : ℤ) (n : ℕ) (odd : Bool) (a : Flat) (j : ℕ) : Type 0 where
  pub not_past : j ≤ n
  pub whole : n ≡ length g
  pub off : Left any_true (sides (On v q d) g) j
  pub odd_is : odd ≡ odd_true (take j (sides (Over v q d) g))
  pub a_is : a ≡ seen v (corner_of g j)

abbrev pub invariant-loop-j : goal.invariant-loop-j
invariant-loop-j l = Passed (ring l.xyz l.table l.r) l.v l.q l.d l.n l.odd l.a l.j

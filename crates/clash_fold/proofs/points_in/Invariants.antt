-- `clash_fold::points_in`: the loop keeps that what is left of the corners decides, and that a and p are corners j and j + 1.
use Rattle.paper.specs.declared.Point.{Point}
use mathlib.Core.Path.{◌≡◌}
use Prim.Native.Nat.{◌+◌, ◌≤◌, ℕ}
use lib.ListN.{length}
use Rattle.paper.specs.Polygon.{Polygon}
use Rattle.polygon.specs.Rings.{corner_of, ring}
use Rattle.clash_fold.proofs.Angles.{TurnsLeft}
use Rattle.clash_fold.proofs.points_in.Given as goal

-- what the loop keeps: at no corner before does w point inside the angle at u, and a and p are corners j and j + 1
pub record Turned (m u w : Point) (g : Polygon) (n : ℕ) (a p : Point) (j : ℕ) : Type 0 where
  pub not_past : j ≤ n
  pub whole : n ≡ length g
  pub left : TurnsLeft m u w g j
  pub a_is : a ≡ corner_of g j
  pub p-is : p ≡ corner_of g (j + 1)

abbrev pub invariant-loop-j : goal.invariant-loop-j
invariant-loop-j l = Turned l.m l.u l.w (ring l.xyz l.table l.r) l.n l.a l.p l.j

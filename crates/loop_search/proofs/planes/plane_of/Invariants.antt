-- `loop_search::planes::plane_of`: the loop keeps that the set has those of the first w vertices that are in the plane.
use mathlib.Core.List.{List, map}
use Prim.Native.Nat.{ℕ, ◌≤◌}
use lib.IntN.{ℤ}
use Rattle.lists.specs.Lists.{upto}
use Rattle.sets.specs.Sets.{Is}
use Rattle.sets.specs.declared.Set.{Set}
use Rattle.paper.specs.declared.Point.{Point}
use Rattle.loop_search.specs.Lines.{level_in}
use Rattle.loop_search.proofs.planes.plane_of.Given as goal

pub record Gathered (xyz : List ℤ) (v : ℕ) (s m : Point) (plane : Set) (w : ℕ) : Type 0 where
  pub reached : w ≤ v
  pub is : Is plane (map (level_in xyz s m) (upto w))

abbrev pub invariant-loop-w : goal.invariant-loop-w
invariant-loop-w l = Gathered l.xyz l.v l.s l.m l.plane l.w

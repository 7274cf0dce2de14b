-- A simple ring in a plane of space has a normal, and is seen as a simple ring in the flat.
-- Along an axis along which the plane's direction is not 0 the ring is seen as a simple ring in the flat, whose area is the normal's
-- coordinate up to the sign.
pub mod Maps
pub mod Heights
pub mod View
pub mod Axes
pub mod Views
use mathlib.Core.Path.{◌≡◌, refl, sym, ◌∙◌, ap, subst}
use mathlib.Core.List.{List, map}
use Prim.Native.Nat.{◌≤◌}
use native.Mathlib.Omega.{arith}
use lib.ListN.{length}
use lib.IntN.{pos}
use Rattle.paper.specs.Points.{origin}
use Rattle.paper.specs.Polygon.{normal, axis, seen}
use Rattle.paper.specs.declared.Point.{Point}
use Rattle.paper.specs.declared.Axis.{Axis}
use Rattle.paper.specs.declared.Axis.TheVariants.{AlongX, AlongY, AlongZ}
use Rattle.means_area.specs.Flats.{Simple}
use Rattle.means_area.specs.Space.{SimpleRing, Level, through}
use Rattle.means_area.proofs.Space.Maps.{length-map}
use Rattle.means_area.proofs.Space.View.{steepness, down_simple, third_not_zero}
use Rattle.means_area.proofs.Space.Axes.{upright, last_is, seen_down, clear_upright, level_upright, normal_upright}
use Rattle.means_area.proofs.Space.Views.{axis_real}

module _ (g : List Point) (n s : Point) (a : Axis) (h : through a n ≡ pos 0 → ⊥) (level : Level n s g) (clear : SimpleRing g) where
  abbrev r : List Point
  r = map (upright a) g

  last : (upright a n).z ≡ pos 0 → ⊥
  last e = h (sym (last_is a n) ∙ e)

  -- the view of a simple ring in a plane across n, along an axis along which n is not 0, is simple
  pub view_simple : Simple (steepness (map (upright a) g)) (map (seen a) g)
  view_simple =
      subst (Simple (steepness r)) (seen_down a g)
      (down_simple r (upright a n) (upright a s) last (level_upright a n s g level) (clear_upright a g clear))

  -- its normal is not 0 along that axis
  pub normal-through : 3 ≤ length g → through a (normal g) ≡ pos 0 → ⊥
  normal-through j e =
      let q = length-map (upright a) g in
      third_not_zero r (upright a n) (upright a s) last (level_upright a n s g level) (clear_upright a g clear) (omega (arith, q))
      (normal_upright a g e)

pub none-through : (a : Axis) → through a origin ≡ pos 0
none-through AlongX = refl
none-through AlongY = refl
none-through AlongZ = refl

-- the normal of a simple ring in a plane is not the origin
pub normal_not_zero : (g : List Point) (n s : Point) → (n ≡ origin → ⊥) → Level n s g → SimpleRing g → 3 ≤ length g → normal g ≡ origin → ⊥
normal_not_zero g n s ne l c j e = normal-through g n s (axis n) (axis_real n ne) l c j (ap (through (axis n)) e ∙ none-through (axis n))

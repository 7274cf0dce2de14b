-- What is proved of polygons and loops: that they have an area, a plane of their own, and are seen without loss.
use Rattle.std.specs.Prelude.{◌≡◌, List, map, ℕ, ◌≤◌, ◌<◌, ℤ, pos, length}
use Rattle.std.proofs.Math.Option.{none}
use Rattle.paper.specs.Points.{origin}
use Rattle.paper.specs.Polygon.{Polygon, normal, plane_side, axis, seen}
use Rattle.paper.specs.Drawing.{Wire, same_place, edge_meets}
use Rattle.paper.specs.Loops.{loops}
use Rattle.paper.specs.declared.Point.{Point}
use Rattle.paper.specs.declared.Flat.{Flat}
use Rattle.paper_laws.specs.Planes.{InOwnPlane}
use Rattle.means_area.specs.Flats.{Simple, area}
use Rattle.means_area.specs.Space.{SimpleRing, through}
use Rattle.means_area.specs.Loops.{loop_of}

-- a simple polygon in the flat has an area
abbrev pub AreaNotZero : Type 0
AreaNotZero = (m : ℤ) (g : List Flat) → 3 ≤ length g → Simple m g → area g ≡ pos 0 → ⊥

-- along the axis that is chosen for a direction, the direction is not 0
abbrev pub AxisReal : Type 0
AxisReal = (n : Point) → (n ≡ origin → ⊥) → through (axis n) n ≡ pos 0 → ⊥

-- a loop's corners: it has a normal, which is not 0 along the axis that it is seen along; its plane has all of them; two points of
-- the plane are seen as two; it is a simple ring in space and as it is seen
pub record WellDrawn (g : Polygon) : Type 0 where
  pub corners : 3 ≤ length g
  pub normal_real : normal g ≡ origin → ⊥
  pub plane_holds : InOwnPlane g
  pub axis_holds : through (axis (normal g)) (normal g) ≡ pos 0 → ⊥
  pub view_holds : (p q : Point) → plane_side g p ≡ pos 0 → plane_side g q ≡ pos 0
      → seen (axis (normal g)) p ≡ seen (axis (normal g)) q → p ≡ q
  pub ring_clear : SimpleRing g
  pub ring_seen : (m : ℤ) × Simple m (map (seen (axis (normal g))) g)

-- every loop of a drawing that passes 11 and 13 is so
abbrev pub LoopsHold : Type 0
LoopsHold = (d : Wire) → same_place d ≡ none → edge_meets d ≡ none → (i : ℕ) → i < length (loops d) → WellDrawn (loop_of d i)

-- A point strictly inside one face and on a side of another is told by rule A or B, unless the side lies in the plane of the first; a way
-- between two common corners that starts strictly inside both faces is told by rule C.
use Rattle.std.specs.Prelude.{◌≡◌, ◌⊎◌, ℕ, ◌+◌, ◌≤◌, ◌<◌, ℤ, pos, length, get_or}
use Rattle.std.proofs.Math.Option.{none}
use Rattle.paper.specs.Points.{origin, times}
use Rattle.paper.specs.Polygon.{Polygon, over, plane_side, lies}
use Rattle.paper.specs.Drawing.{Wire, same_place, edge_meets}
use Rattle.paper.specs.Loops.{loops}
use Rattle.paper.specs.declared.Point.{Point}
use Rattle.paper.specs.declared.Where.TheVariants.{Inside}
use Rattle.paper_laws.specs.Planes.{OnPlane}
use Rattle.means_drawing.specs.Segments.{Whole, along}
use Rattle.means_area.specs.Flats.{Up}
use Rattle.means_area.specs.Loops.{loop_of}
use Rattle.means_clash.specs.Clash.{Corner, corner_at, RuleA, RuleB, RuleC}
use Rattle.means_corner.specs.Corners.{Starts}

-- p / n is in the plane of f, and strictly inside it
pub record Strictly (f : Polygon) (p : Point) (n : ℤ) : Type 0 where
  pub plane : OnPlane f p n
  pub place : lies (over p n) f ≡ Inside

-- p / n is a point of the segment from a to b, or one of its ends
pub record OnSegment (a b p : Point) (n : ℤ) : Type 0 where
  pub here : Whole
  pub is : times here.scale p ≡ times n (along here.scale here.place a b)

abbrev pub BorderMeets : Type 0
BorderMeets =
    (f g : Polygon) → 2 ≤ length g → (p : Point) (n : ℤ) → Up n → Strictly f p n → (i : ℕ) → i < length g
    → OnSegment (corner_at g i) (corner_at g (i + 1)) p n
    → RuleB g f ⊎ (RuleA g f ⊎ ((plane_side f (corner_at g i) ≡ pos 0) × (plane_side f (corner_at g (i + 1)) ≡ pos 0)))

-- of two loops of a drawing that passes 11 and 13, in two planes, with common corners u and v: the first part of the way from u to v is
-- strictly inside both
abbrev pub WithinBoth : Type 0
WithinBoth =
    (d : Wire) → same_place d ≡ none → edge_meets d ≡ none → (i j : ℕ) → i < length (loops d) → j < length (loops d)
    → (((k : ℕ) → k < length (loop_of d j) → plane_side (loop_of d i) (get_or (loop_of d j) k origin) ≡ pos 0) → ⊥) → (u v : Point)
    → (u ≡ v → ⊥) → Corner (loop_of d i) u × Corner (loop_of d j) u → Corner (loop_of d i) v × Corner (loop_of d j) v
    → Starts (loop_of d i) u v Inside → Starts (loop_of d j) u v Inside → RuleC (loop_of d i) (loop_of d j)

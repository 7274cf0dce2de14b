-- What is proved of where a point lies in a polygon.
use Rattle.std.specs.Prelude.{◌≡◌, ◌↔◌, List, ◌∷◌, map, reverse, ◌≤◌, ℤ, pos, length}
use Rattle.std.specs.Bool.{xor}
use Rattle.paper.specs.Points.{times}
use Rattle.paper.specs.Polygon.{Polygon, over, normal, seen, where_flat, lies}
use Rattle.paper.specs.declared.Point.{Point}
use Rattle.paper.specs.declared.Flat.{Flat}
use Rattle.paper.specs.declared.Axis.{Axis}
use Rattle.paper.specs.declared.Where.TheVariants.{Outside, Inside}
use Rattle.paper_laws.specs.Planes.{InOwnPlane, OnPlane}
use Rattle.means_area.specs.Flats.{Up, Simple, Least, area, lst}
use Rattle.means_area.specs.Space.{through}
use Rattle.means_inside.specs.Beams.{round, beam, right, Seen}
use Rattle.means_inside.specs.Regions.{Cut, At, OneWay}
use Rattle.means_inside.specs.Touch.{Touch}
use Rattle.means_inside.specs.Means.{big, Means}
use Rattle.means_inside.specs.Convex.{Hand, Convex, OnHand, NotBeyond}

-- where p / m and q / n are one place, one answer is given
abbrev pub ByPlace : Type 0
ByPlace = (g : Polygon) (p q : Point) (m n : ℤ) → Up m → Up n → times n p ≡ times m q → lies (over p m) g ≡ lies (over q n) g

-- `whereFlat` says of every point of a simple polygon's plane where it lies
abbrev pub WhereMeans : Type 0
WhereMeans = (m : ℤ) (g : List Flat) → 3 ≤ length g → Simple m g → Means m g

-- a ray from p towards the lowest corner v: of all sides only the two at v decide
abbrev pub FanDecides : Type 0
FanDecides = (m : ℤ) (p v x : Flat) (l : List Flat) → Least m v (x ∷ l) → Seen m v p (v ∷ x ∷ l)
    → round (beam p v) (v ∷ x ∷ l) ≡ xor (right p v x) (right p v (lst x l))

-- run backwards, a list gives the same answer
abbrev pub AnyWay : Type 0
AnyWay = (d : ℤ) → Up d → (g : List Flat) (p : Flat) → where_flat p d (reverse g) ≡ where_flat p d g

-- of any simple polygon: a point that is beyond none of its sides, and on none, is inside
abbrev pub NotBeyondInside : Type 0
NotBeyondInside =
    (m : ℤ) (g : List Flat) → 3 ≤ length g → Simple m g → (h : Hand) (d : ℤ) → Up d → (p : Flat) → NotBeyond h d g p
    → (Touch p (map (big d) g) → ⊥) → where_flat p d g ≡ Inside

-- inside a convex polygon is strictly to one side of every side
abbrev pub ConvexMeans : Type 0
ConvexMeans =
    (m : ℤ) (g : List Flat) → 3 ≤ length g → Simple m g → (h : Hand) → Convex h g → (d : ℤ) → Up d → (p : Flat)
    → (where_flat p d g ≡ Inside) ↔ OnHand h d g p

-- of a polygon in its plane, a point p / d of the plane: seen along any axis that the plane is not along, the answer is the same
abbrev pub AnyAxis : Type 0
AnyAxis =
    (g : Polygon) → InOwnPlane g → (a : Axis) → (through a (normal g) ≡ pos 0 → ⊥) → (d : ℤ) → Up d → (p : Point)
    → OnPlane g p d → lies (over p d) g ≡ where_flat (seen a p) d (map (seen a) g)

-- every triangulation whose triangles turn the way that the polygon does has the inside and the border for its region
abbrev pub OneRegion : Type 0
OneRegion =
    (m : ℤ) (g : List Flat) (t : Cut m g) → OneWay (area g) t → (d : ℤ) → Up d → (p : Flat)
    → At (big d) t p ↔ (where_flat p d g ≡ Outside → ⊥)

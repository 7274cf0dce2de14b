-- The winding of a solid's faces round a point p / n, n above 0: the tetrahedra from an apex over the fans of the faces that hold it,
-- with their signs. It is the same from every apex that sees the faces. Of a solid only (iii) is asked.
use Rattle.std.specs.Prelude.{◌≡◌, Bool, List, [], ◌∷◌, map, ℕ, ◌<◌, ℤ, pos, ◌+ℤ◌, length, get_or}
use Rattle.std.proofs.Math.Option.{none}
use Rattle.paper.specs.Points.{origin, minus, times, dot, det}
use Rattle.paper.specs.Polygon.{Polygon}
use Rattle.paper.specs.Drawing.{Wire, edge_at, same_place}
use Rattle.paper.specs.Loops.{Loop, loop_at, polygon, candidates}
use Rattle.paper.specs.declared.Point.{Point}
use Rattle.paper_laws.specs.Planes.{OnPlane}
use Rattle.means_area.specs.Flats.{Up}
use Rattle.means_solid.specs.Solid.{Face, EachWay, face_sum}
use Rattle.means_region.specs.Tetra.{holds}

-- positions n times as large, taken from p
abbrev pub away : ℤ → Point → Point → Point
away n p q = minus (times n q) p

-- the fan of a face from its first corner, with the apex o; positions are taken from the point asked for
unfoldable pub fan_holds : Point → Point → List Point → ℤ
fan_holds o a [] = pos 0
fan_holds o a (b ∷ []) = pos 0
fan_holds o a (b ∷ (c ∷ r)) = holds o a b c +ℤ fan_holds o a (c ∷ r)

unfoldable pub face_holds : Point → Polygon → ℤ
unfolding fan_holds
face_holds o [] = pos 0
face_holds o (a ∷ r) = fan_holds o a r

module _ (d : Wire) (cs : List Loop) (taken turned : List Bool) (n : ℤ) (p : Point) where
  -- over the faces in their directions, from the apex that is at o from the point
  abbrev pub rounds : Point → ℤ
  rounds o = face_sum taken turned (λ l. face_holds o (map (away n p) (polygon d l))) 0 cs

  abbrev pub winding : Point → ℤ
  winding o = rounds (away n p o)

  -- p / n is in the plane of no face
  abbrev pub OffPlanes : Type 0
  OffPlanes = (k : ℕ) → Face d cs taken turned k → OnPlane (polygon d (loop_at cs k)) p n → ⊥

  -- no two corners of a face are in one plane with p / n and the apex that is at o from p
  abbrev pub NoTwoInPlane : Point → Type 0
  NoTwoInPlane o = (k i j : ℕ) → Face d cs taken turned k → i < j → j < length (polygon d (loop_at cs k))
      → det o (away n p (get_or (polygon d (loop_at cs k)) i origin)) (away n p (get_or (polygon d (loop_at cs k)) j origin)) ≡ pos 0 → ⊥

  pub record Sees (o : Point) : Type 0 where
    pub planes : OffPlanes
    pub apart : NoTwoInPlane (away n p o)

  -- seen from p / n, every corner of a face is ahead in the direction of m
  abbrev pub Ahead : Point → Type 0
  Ahead m = (k i : ℕ) → Face d cs taken turned k → i < length (polygon d (loop_at cs k))
      → Up (dot m (away n p (get_or (polygon d (loop_at cs k)) i origin)))

-- a set of candidates with directions such that each edge is run once each way, as (iii) has it of a solid
pub record OnceEachWay (d : Wire) (cs : List Loop) (taken turned : List Bool) : Type 0 where
  pub set : length taken ≡ length cs
  pub iii : (e : ℕ) → e < length d.edges → EachWay d cs taken turned (edge_at d e)

-- the faces go round each point that is in the plane of none of them a number of times
pub record Winds (d : Wire) (cs : List Loop) (taken turned : List Bool) : Type 0 where
  -- some apex sees them all
  pub some_apex : (n : ℤ) → Up n → (p : Point) → OffPlanes d cs taken turned n p → (o : Point) × Sees d cs taken turned n p o
  -- all that do tell one number
  pub any_apex : (n : ℤ) (p o o' : Point) → Sees d cs taken turned n p o → Sees d cs taken turned n p o'
      → winding d cs taken turned n p o ≡ winding d cs taken turned n p o'
  -- it is 0 where all corners of the faces are on one side of a plane through the point
  pub far_away : (n : ℤ) (p o : Point) → Sees d cs taken turned n p o → (m : Point) → Ahead d cs taken turned n p m
      → winding d cs taken turned n p o ≡ pos 0

-- of a drawing that passes 11; where it passes 13 too, no face has the normal 0, with which every point would be in its plane
abbrev pub FacesWind : Type 0
FacesWind =
    (d : Wire) → same_place d ≡ none → (taken turned : List Bool) → OnceEachWay d (candidates d) taken turned
    → Winds d (candidates d) taken turned

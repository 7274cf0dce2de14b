-- The geometry's meaning, told in one place: what the tests of the definitions decide, in whole numbers and fractions of them. Rules A, B
-- and C in words are in `means_clash`, cover is in Cover.
use Rattle.std.specs.Prelude.{◌≡◌, Bool, true, false, ◌↔◌, List, ◌∷◌, ◌++◌, map, reverse, ℕ, ◌+◌, ◌<◌, ℤ, pos, nat_abs, length, ◌<ℤ◌}
use Rattle.std.proofs.Math.Option.{none}
use Rattle.lists.specs.Lists.{sides}
use Rattle.exact.specs.Sum.{sum_of}
use Rattle.paper.specs.Points.{plus, times, det}
use Rattle.paper.specs.Polygon.{Polygon, over, normal, plane_side, axis, seen, where_flat, lies}
use Rattle.paper.specs.Drawing.{Wire, on_open, open_meets, same_place, edge_meets}
use Rattle.paper.specs.Loops.{loops, candidates}
use Rattle.paper.specs.Clash.{clash}
use Rattle.paper.specs.Solids.{face_six}
use Rattle.paper.specs.declared.Point.{Point}
use Rattle.paper.specs.declared.Flat.{Flat}
use Rattle.paper.specs.declared.Axis.{Axis}
use Rattle.paper.specs.declared.Where.TheVariants.{Outside, Inside}
use Rattle.paper_laws.specs.Planes.{InOwnPlane, OnPlane}
use Rattle.means_drawing.specs.Segments.{Between, Common, along}
use Rattle.means_area.specs.Flats.{Up, area}
use Rattle.means_area.specs.Space.{through}
use Rattle.means_area.specs.Loops.{loop_of}
use Rattle.means_area.specs.Theorems.{LoopsHold}
use Rattle.means_inside.specs.Beams.{round, beam, facing}
use Rattle.means_inside.specs.Regions.{Cut, At, OneWay}
use Rattle.means_inside.specs.Touch.{Touch}
use Rattle.means_inside.specs.Means.{big, Means}
use Rattle.means_inside.specs.Theorems.{ByPlace}
use Rattle.means_inside.specs.Convex.{Hand, Convex, OnHand, NotBeyond}
use Rattle.means_clash.specs.Clash.{Opposite}
use Rattle.means_corner.specs.Corners.{CornerAngles}
use Rattle.means_border.specs.Along.{MeetsBorder}
use Rattle.means_contact.specs.Contact.{BorderMeets, WithinBoth}
use Rattle.means_region.specs.Winding.{Winds}
use Rattle.demands.specs.Solid.{Solid}

-- loop i as `lies` sees it
abbrev pub seen_loop : Wire → ℕ → List Flat
seen_loop d i = map (seen (axis (normal (loop_of d i)))) (loop_of d i)

-- the point where an edge pierces a plane, times |a| + |b|, for ends p and q that are a and b from it
abbrev pub piercing_point : Point → Point → ℤ → ℤ → Point
piercing_point p q a b = plus (times (pos (nat_abs b)) p) (times (pos (nat_abs a)) q)

-- the sum of the determinants (p, a, b) over the sides from a to b: a face's part of six volumes, by a fan round p
abbrev pub fan_round : Point → Polygon → ℤ
fan_round p f = sum_of (sides (det p) f)

pub record Geometry : Type 0 where
  -- 13, "shares a point": p is between a and b on their segment; the segment from a to b without its ends, and that from c to d with its
  -- ends, have a common point
  pub on_segment : (a b p : Point) → (a ≡ b → ⊥) → (on_open a b p ≡ true) ↔ Between a b p
  pub common : (a b c d : Point) → (a ≡ b → ⊥) → (open_meets a b c d ≡ true) ↔ Common a b c d
  -- of every loop of a drawing that passes 11 and 13: its normal is not zero; its plane has all its corners; it is seen without loss along
  -- an axis; its sides meet in its corners alone
  pub loop_planes : LoopsHold
  -- "inside A or on its border", of such a loop: the region of a triangulation of what is seen of it, and its sides. The triangles all
  -- turn the way that the loop does, and overlap on chords only.
  pub seen_as : (p : Point) (k : ℤ) (g : Polygon)
      → lies (over p k) g ≡ where_flat (seen (axis (normal g)) p) k (map (seen (axis (normal g))) g)
  pub region : (d : Wire) → same_place d ≡ none → edge_meets d ≡ none → (i : ℕ) → i < length (loops d)
      → (m : ℤ) × Means m (seen_loop d i)
  -- every triangulation whose triangles turn the way that the polygon does has that region
  pub one_region : (m : ℤ) (g : List Flat) (t : Cut m g) → OneWay (area g) t → (d : ℤ) → Up d → (p : Flat)
      → At (big d) t p ↔ (where_flat p d g ≡ Outside → ⊥)
  -- whatever ray is asked, from p through any other point q; and whatever corner the ring starts at
  pub any_ray : (d : ℤ) → Up d → (g : List Flat) (p q : Flat) → Up (facing p q q) → (Touch p (map (big d) g) → ⊥)
      → (round (beam p q) (map (big d) g) ≡ true → where_flat p d g ≡ Inside)
      × (round (beam p q) (map (big d) g) ≡ false → where_flat p d g ≡ Outside)
  pub any_start : (d : ℤ) → Up d → (x : Flat) (l : List Flat) (y : Flat) (r : List Flat) (p : Flat)
      → where_flat p d (x ∷ (l ++ y ∷ r)) ≡ where_flat p d (y ∷ (r ++ x ∷ l))
  -- a list that is run backwards; a polygon in its plane, seen along any axis that the plane is not along
  pub any_way : (d : ℤ) → Up d → (g : List Flat) (p : Flat) → where_flat p d (reverse g) ≡ where_flat p d g
  pub any_axis : (g : Polygon) → InOwnPlane g → (a : Axis) → (through a (normal g) ≡ pos 0 → ⊥) → (d : ℤ) → Up d → (p : Point)
      → OnPlane g p d → lies (over p d) g ≡ where_flat (seen a p) d (map (seen a) g)
  -- where a point lies goes by its place alone: p / m and q / n that are one place get one answer
  pub by_place : ByPlace
  -- what is on one hand of every side of a loop, or in the side's line and on no side, is inside; inside a loop that is convex is strictly
  -- on one hand of every side
  pub not_beyond : (d : Wire) → same_place d ≡ none → edge_meets d ≡ none → (i : ℕ) → i < length (loops d) → (h : Hand) (k : ℤ) → Up k
      → (p : Flat) → NotBeyond h k (seen_loop d i) p → (Touch p (map (big k) (seen_loop d i)) → ⊥) → where_flat p k (seen_loop d i) ≡ Inside
  pub convex : (d : Wire) → same_place d ≡ none → edge_meets d ≡ none → (i : ℕ) → i < length (loops d) → (h : Hand)
      → Convex h (seen_loop d i) → (k : ℤ) → Up k → (p : Flat) → (where_flat p k (seen_loop d i) ≡ Inside) ↔ OnHand h k (seen_loop d i) p
  -- from a point strictly inside, in a direction of the plane, there is a first border point, and all before it is strictly inside
  pub first_border : MeetsBorder
  -- A: the piercing point is on the edge, |a| / (|a| + |b|) of the way from p to q and between its ends, and it is in g's plane
  pub on_edge : (p q : Point) (a b : ℤ) → Opposite a b
      → (pos 0 <ℤ pos (nat_abs a)) × (pos (nat_abs a) <ℤ pos (nat_abs a + nat_abs b))
      × (piercing_point p q a b ≡ along (pos (nat_abs a + nat_abs b)) (pos (nat_abs a)) p q)
  pub in_plane : (g : Polygon) (p q : Point) → Opposite (plane_side g p) (plane_side g q)
      → OnPlane g (piercing_point p q (plane_side g p) (plane_side g q)) (pos (nat_abs (plane_side g p) + nat_abs (plane_side g q)))
  -- "either way round": faces whose corners are in their planes
  pub either_way : (f g : Polygon) → InOwnPlane f → InOwnPlane g → clash f g ≡ clash g f
  -- C, "points strictly inside the corner angle": of every loop of a drawing that passes 11 and 13, just such a direction from a corner
  -- leads inside, and one strictly outside the angle leads out
  pub corner_angle : CornerAngles
  -- a point strictly inside f and on a side of g: by B or A they clash, or the side is in f's plane; a way between two common corners
  -- that starts strictly inside both loops: by C they clash
  pub border_meets : BorderMeets
  pub within_both : WithinBoth
  -- the faces of a solid, in their directions, go round each point that is in the plane of none of them a number of times: it is the same
  -- from every apex, and 0 where all faces are on one side of a plane through the point
  pub winds : (d : Wire) → same_place d ≡ none → (taken turned : List Bool) (six : ℕ) → Solid d (candidates d) taken turned six
      → Winds d (candidates d) taken turned
  -- six volumes of a face is the fan round any point of its plane, so it does not go by the corner that the fan starts from
  pub any_fan : (f : Polygon) (p : Point) → plane_side f p ≡ pos 0 → face_six f ≡ fan_round p f

-- The loops of a drawing that passes 11, no two vertices at one point, and 13, no edge shares a point with a vertex or edge other than at
-- its own end vertices: their normals are not the origin, so that they have planes, and are seen without loss.
pub mod Places
pub mod Edges
pub mod Rings
use mathlib.Core.Path.{◌≡◌, sym, ◌∙◌, ap, subst}
use mathlib.Core.Bool.{true}
use mathlib.Core.Option.{none}
use mathlib.Core.List.{[], ◌∷◌, map}
use Prim.Native.Nat.{ℕ, ◌<◌, ◌≤◌}
use native.Mathlib.Omega.{arith}
use lib.ListN.{length, get_or}
use lib.IntN.{ℤ, pos, ◌-ℤ◌}
use Rattle.lists.proofs.Passing.{all_yes}
use Rattle.paper.specs.Points.{origin, dot, is_zero}
use Rattle.paper.specs.Polygon.{Polygon, normal, corner, plane_side, one_plane, axis, seen}
use Rattle.paper.specs.Drawing.{Wire, at, same_place, edge_meets}
use Rattle.paper.specs.Loops.{Loop, loops, polygon, loop_at}
use Rattle.paper.specs.declared.Point.{Point}
use Rattle.paper_laws.proofs.Points.{zero_yes}
use Rattle.paper_laws.proofs.Vectors.{vec, ◌-s◌, ◌·◌, v, ◌-v◌, vring}
use Rattle.paper_laws.specs.Planes.{InOwnPlane}
use Rattle.means_loops.specs.Path.{ClosedPath}
use Rattle.means_loops.proofs.OwnPlane.{less-dot, own_plane}
use Rattle.means_loops.proofs.Paths.{listed_path}
use Rattle.means_area.specs.Theorems.{LoopsHold}
use Rattle.means_area.specs.Flats.{Simple}
use Rattle.means_area.specs.Space.{SimpleRing, Level, through}
use Rattle.means_area.specs.Loops.{loop_of}
use Rattle.means_area.proofs.Space.Maps.{length-map}
use Rattle.means_area.proofs.Space.Views.{axis_real, view_one}
use Rattle.means_area.proofs.Space.{view_simple, normal_not_zero}
use Rattle.means_area.proofs.Loops.Places.{of_place}
use Rattle.means_area.proofs.Loops.Rings.{clear}

-- a simple ring of three corners or more with a plane of its own
record Good (g : Polygon) : Type 0 where
  long : 3 ≤ length g
  real : normal g ≡ origin → ⊥
  flat : InOwnPlane g
  simple : SimpleRing g

good : (d : Wire) → same_place d ≡ none → edge_meets d ≡ none → (l : Loop) → ClosedPath d l → Good (polygon d l)
unfolding polygon
good d r11 r13 l c =
    let g = map (at d) l in
    let y = c.plane in
    let long : 3 ≤ length g = omega (arith, c.three, length-map (at d) l) in
    let t = clear d r11 r13 l c in
    let level : Level y.across (get_or g 0 origin) g = record {
      every = λ p o.
          let r = of_place origin p g o in
          less-dot y.across p (get_or g 0 origin) y.height (ap (dot y.across) (sym r.2) ∙ y.every r.0 r.1)
          (y.every 0 (omega arith));
    } in
    record {
      long = long;
      real = normal_not_zero g y.across (get_or g 0 origin) y.real level t long;
      flat = own_plane g y (omega arith);
      simple = t;
    }

-- loop i of a drawing that passes 11 and 13
module _ (d : Wire) (r11 : same_place d ≡ none) (r13 : edge_meets d ≡ none) (i : ℕ) (h : i < length (loops d)) where
  is_good : Good (loop_of d i)
  is_good = good d r11 r13 (loop_at (loops d) i) (listed_path d r11 i h)

  -- its normal is not the origin
  pub normal_real : normal (loop_of d i) ≡ origin → ⊥
  normal_real = is_good.real

  -- its plane has all its corners
  pub plane_holds : InOwnPlane (loop_of d i)
  plane_holds = is_good.flat

  -- its normal is not 0 along the axis that it is seen along
  pub axis_holds : through (axis (normal (loop_of d i))) (normal (loop_of d i)) ≡ pos 0 → ⊥
  axis_holds = axis_real (normal (loop_of d i)) normal_real

  -- along that axis two points of its plane are seen as two
  pub view_holds : (p q : Point) → plane_side (loop_of d i) p ≡ pos 0 → plane_side (loop_of d i) q ≡ pos 0
      → seen (axis (normal (loop_of d i))) p ≡ seen (axis (normal (loop_of d i))) q → p ≡ q
  unfolding plane_side
  view_holds p q ep eq s =
      let g = loop_of d i in
      view_one (axis (normal g)) (normal g) p q axis_holds
      (vring (vec (normal g) ∷ vec p ∷ vec q ∷ vec (corner g) ∷ []) (v 0 · (v 1 -v v 2)) (v 0 · (v 1 -v v 3) -s v 0 · (v 2 -v v 3)) tt
      ∙ (λ t. ep t -ℤ eq t)) s

  -- it is a simple ring in space, and is seen as one in the flat
  pub ring_clear : SimpleRing (loop_of d i)
  ring_clear = is_good.simple

  pub ring_seen : (m : ℤ) × Simple m (map (seen (axis (normal (loop_of d i)))) (loop_of d i))
  unfolding one_plane plane_side
  ring_seen =
      let g = loop_of d i in
      let level : Level (normal g) (corner g) g = record {
        every = λ p o.
            let r = of_place origin p g o in
            zero_yes (plane_side g p)
            (subst (λ (q : Point). is_zero (plane_side g q) ≡ true) r.2
            (all_yes (λ q. is_zero (plane_side g q)) origin g plane_holds r.0 r.1));
      } in
      (_, view_simple g (normal g) (corner g) (axis (normal g)) axis_holds level ring_clear)

  -- it has at least three corners
  pub loop_long : 3 ≤ length (loop_of d i)
  loop_long = is_good.long

-- all of it
pub loops_hold : LoopsHold
loops_hold d r11 r13 i h = record {
  corners = loop_long d r11 r13 i h;
  normal_real = normal_real d r11 r13 i h;
  plane_holds = plane_holds d r11 r13 i h;
  axis_holds = axis_holds d r11 r13 i h;
  view_holds = view_holds d r11 r13 i h;
  ring_clear = ring_clear d r11 r13 i h;
  ring_seen = ring_seen d r11 r13 i h;
}

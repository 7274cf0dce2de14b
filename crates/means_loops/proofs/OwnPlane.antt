-- Corners in a plane are in the plane of the polygon's own normal; so are those of a candidate.
use mathlib.Core.Path.{◌≡◌, refl, ap, ap₂, ◌∙◌, sym}
use mathlib.Core.Option.{none}
use mathlib.Core.List.{List, [], ◌∷◌}
use Prim.Native.Nat.{ℕ, suc, ◌<◌}
use native.Mathlib.Omega.{arith}
use lib.IntN.{ℤ, pos}
use lib.ListN.{length, get_or}
use Rattle.lists.specs.Lists.{sides, sides_from}
use Rattle.lists.proofs.Passing.{all_is}
use Rattle.paper.specs.Points.{origin, plus, minus, times, dot, cross, sum, is_zero}
use Rattle.paper.specs.Polygon.{Polygon, normal, corner, plane_side, one_plane}
use Rattle.paper.specs.Drawing.{Wire, same_place}
use Rattle.paper.specs.Loops.{loop_at, polygon, candidates}
use Rattle.paper.specs.declared.Point.{Point}
use Rattle.paper_laws.proofs.Vectors.{num, vec, x, ◌·◌, o, v, ◌+v◌, ◌-v◌, ◌*v◌, ◌×v◌, vring}
use Rattle.paper_laws.proofs.Wires.{polygon_length}
use Rattle.paper_laws.proofs.Points.{zero_is, across_too, dot_even}
use Rattle.paper_laws.specs.Planes.{InOwnPlane}
use Rattle.means_loops.specs.Plane.{InPlane}
use Rattle.means_loops.proofs.Planes.{loop_plane_lem}
use Rattle.means_loops.proofs.Listing.{candidates_are}

-- ---- the normal of corners in a plane is across it

module _ (m : Point) (h : ℤ) where
  cross_two : (p q : Point) → dot m p ≡ h → dot m q ≡ h → cross m (cross p q) ≡ times h (minus p q)
  cross_two p q a b =
      vring (vec m ∷ vec p ∷ vec q ∷ []) (v 0 ×v (v 1 ×v v 2)) ((v 0 · v 2) *v v 1 -v (v 0 · v 1) *v v 2) tt
      ∙ (λ i. minus (times (b i) p) (times (a i) q)) ∙ vring (num h ∷ vec p ∷ vec q ∷ []) (x 0 *v v 1 -v x 0 *v v 2) (x 0 *v (v 1 -v v 2))
      tt

  from-cross : (a p : Point) (ps : List Point) → dot m a ≡ h → dot m p ≡ h → ((i : ℕ) → i < length ps → dot m (get_or ps i origin) ≡ h)
      → cross m (sum (sides_from cross a p ps)) ≡ times h (minus p a)
  unfolding sum sides_from
  from-cross a p [] ha hp f = vring (vec m ∷ vec (cross p a) ∷ []) (v 0 ×v (v 1 +v o)) (v 0 ×v v 1) tt ∙ cross_two p a hp ha
  from-cross a p (q ∷ ps) ha hp f =
      let hq = f 0 (omega arith) in
      vring (vec m ∷ vec (cross p q) ∷ vec (sum (sides_from cross a q ps)) ∷ []) (v 0 ×v (v 1 +v v 2)) ((v 0 ×v v 1) +v (v 0 ×v v 2)) tt
      ∙ ap₂ plus (cross_two p q hp hq) (from-cross a q ps ha hq (λ i l. f (suc i) (omega arith)))
      ∙ vring (num h ∷ vec p ∷ vec q ∷ vec a ∷ []) ((x 0 *v (v 1 -v v 2)) +v (x 0 *v (v 2 -v v 3))) (x 0 *v (v 1 -v v 3)) tt

  pub normal-across : (g : Polygon) → ((i : ℕ) → i < length g → dot m (get_or g i origin) ≡ h) → cross m (normal g) ≡ origin
  unfolding normal sides
  normal-across [] f = nil
    where
      nil : cross m (sum []) ≡ origin
      nil = vring (vec m ∷ []) (v 0 ×v o) o tt
  normal-across (a ∷ r) f =
      let ha = f 0 (omega arith) in
      from-cross a a r ha ha (λ i l. f (suc i) (omega arith)) ∙ vring (num h ∷ vec a ∷ []) (x 0 *v (v 1 -v v 1)) o tt

pub corner-at : (g : Polygon) → corner g ≡ get_or g 0 origin
unfolding corner
corner-at [] = refl
corner-at (p ∷ ps) = refl

pub less-dot : (n p q : Point) (h : ℤ) → dot n p ≡ h → dot n q ≡ h → dot n (minus p q) ≡ pos 0
less-dot n p q h a b = dot_even n p q (a ∙ sym b)

-- ---- so a polygon in a plane is in its own

pub own_plane : (f : Polygon) → InPlane f → 0 < length f → InOwnPlane f
unfolding one_plane plane_side
own_plane f y h =
    all_is (λ p. is_zero (plane_side f p)) origin f (λ i l.
    zero_is (across_too y.across (normal f) (minus (get_or f i origin) (corner f)) y.real
    (normal-across y.across y.height f y.every)
    (less-dot y.across (get_or f i origin) (corner f) y.height (y.every i l) (ap (dot y.across) (corner-at f) ∙ y.every 0 h))))

-- ---- candidates of a drawing with no two vertices at one point

pub candidates-flat : (d : Wire) → same_place d ≡ none → (i : ℕ) → i < length (candidates d)
    → InOwnPlane (polygon d (loop_at (candidates d) i))
candidates-flat d e i h =
    let a = (candidates_are d i h).loop in
    own_plane (polygon d (loop_at (candidates d) i)) (loop_plane_lem d e (loop_at (candidates d) i) a)
    (omega (arith, a.three, polygon_length d (loop_at (candidates d) i)))

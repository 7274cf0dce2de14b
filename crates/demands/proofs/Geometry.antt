-- What the tests of the geometry decide.
use mathlib.Core.Path.{◌≡◌, refl, sym, ap, ◌∙◌}
use mathlib.Core.Logic.{inl, inr}
use mathlib.Core.List.{List, [], ◌∷◌, map}
use Prim.Native.Nat.{ℕ, ◌+◌, ◌<◌}
use native.Mathlib.Omega.{arith}
use borrow.Author.Tests.{ltb-true, lt-ltb}
use lib.IntN.{ℤ, pos, negsuc, nat_abs, neg_ℤ, ◌+ℤ◌}
use lib.Signed.{◌<ℤ◌}
use Rattle.lists.specs.Lists.{sides, sides_from}
use Rattle.exact.specs.Sum.{sum_of}
use Rattle.paper.specs.Points.{plus, times, dot, det, cross, sum}
use Rattle.paper.specs.Polygon.{Polygon, over, normal, corner, plane_side, axis, seen, where_flat, lies}
use Rattle.paper.specs.Solids.{face_six}
use Rattle.paper.specs.declared.Point.{Point}
use Rattle.paper_laws.specs.Planes.{OnPlane}
use Rattle.paper_laws.proofs.Six.{six_normal}
use Rattle.paper_laws.proofs.Vectors.{num, vec, k, x, ◌+s◌, ◌·◌, dets, o, v, ◌+v◌, ◌-v◌, ◌*v◌, ◌×v◌, vring}
use Rattle.paper_laws.proofs.Points.{dot_comm, dot-less}
use Rattle.means_drawing.specs.Segments.{along}
use Rattle.means_drawing.proofs.Segments.{on_open_means, open_meets_means}
use Rattle.means_area.proofs.Loops.{loops_hold}
use Rattle.means_inside.proofs.Place.{by_place}
use Rattle.means_inside.proofs.Inside.{every_ray_says, any_start}
use Rattle.means_inside.proofs.AnyCut.{one_region}
use Rattle.means_inside.proofs.Backwards.{any_way}
use Rattle.means_inside.proofs.Axis.{any_axis}
use Rattle.means_inside.proofs.Loops.{loop_means, loop_not_beyond, loop_convex}
use Rattle.means_clash.proofs.Either.{clash-either}
use Rattle.means_corner.proofs.Loops.{corner_angles}
use Rattle.means_border.proofs.InSpace.{meets_border}
use Rattle.means_contact.proofs.Border.{border_meets}
use Rattle.means_contact.proofs.Common.{within_both}
use Rattle.means_region.proofs.Winds.{faces_wind}
use Rattle.means_moves.proofs.Faces.{pierced_on}
use Rattle.means_clash.specs.Clash.{Opposite}
use Rattle.demands.specs.Geometry.{piercing_point, fan_round, Geometry}
use Rattle.paper_laws.proofs.Tests.{is_lt_z}
use Rattle.means_clash.proofs.Words.{is_opposite}

seen-is : (p : Point) (n : ℤ) (g : Polygon) → lies (over p n) g ≡ where_flat (seen (axis (normal g)) p) n (map (seen (axis (normal g))) g)
unfolding lies
seen-is p n g = refl

-- ---- the fan

from-sides : (p a b : Point) (r : List Point) → sum_of (sides_from (det p) a b r) ≡ dot p (sum (sides_from cross a b r))
unfolding sum_of sides_from sum
from-sides p a b [] = vring (vec p ∷ vec a ∷ vec b ∷ []) (dets (v 0) (v 2) (v 1) +s k (pos 0)) (v 0 · ((v 2 ×v v 1) +v o)) tt
from-sides p a b (c ∷ r) =
    ap (λ (z : ℤ). det p b c +ℤ z) (from-sides p a c r)
    ∙ vring (vec p ∷ vec b ∷ vec c ∷ vec (sum (sides_from cross a c r)) ∷ []) (dets (v 0) (v 1) (v 2) +s v 0 · v 3)
    (v 0 · ((v 1 ×v v 2) +v v 3)) tt

round-normal : (p : Point) (f : Polygon) → fan_round p f ≡ dot p (normal f)
unfolding sum_of sides normal sum
round-normal p [] = vring (vec p ∷ []) (k (pos 0)) (v 0 · o) tt
round-normal p (a ∷ r) = from-sides p a a r

fan-round : (f : Polygon) (p : Point) → plane_side f p ≡ pos 0 → face_six f ≡ fan_round p f
unfolding plane_side
fan-round f p e =
    six_normal f ∙ dot_comm (corner f) (normal f) ∙ sym (dot-less (normal f) p (corner f) e) ∙ dot_comm (normal f) p ∙ sym (round-normal p f)

-- ---- the piercing point

on_way : (p q : Point) (a b : ℕ) → plus (times (pos b) p) (times (pos a) q) ≡ along (pos (a + b)) (pos a) p q
on_way p q a b =
    vring (vec p ∷ vec q ∷ num (pos a) ∷ num (pos b) ∷ []) ((x 3 *v v 0) +v (x 2 *v v 1)) (((x 2 +s x 3) *v v 0) +v (x 2 *v (v 1 -v v 0))) tt

-- sizes of numbers below and above zero
size_down : (z : ℤ) → z <ℤ pos 0 → (pos (nat_abs z) ≡ neg_ℤ z) × (0 < nat_abs z)
size_down (pos n) h = absurd (omega (arith, ltb-true n 0 ((is_lt_z (pos n) (pos 0)).1 h)))
size_down (negsuc n) h = (refl, omega arith)

size_up : (z : ℤ) → pos 0 <ℤ z → (pos (nat_abs z) ≡ z) × (0 < nat_abs z)
size_up (pos n) h = (refl, ltb-true 0 n ((is_lt_z (pos 0) (pos n)).1 h))
size_up (negsuc n) h = let z : ◌≡◌ {A = ℕ} 0 1 = cc ((is_lt_z (pos 0) (negsuc n)).1 h) in absurd (omega arith)

on_edge : (p q : Point) (a b : ℤ) → Opposite a b
    → (pos 0 <ℤ pos (nat_abs a)) × (pos (nat_abs a) <ℤ pos (nat_abs a + nat_abs b))
    × (piercing_point p q a b ≡ along (pos (nat_abs a + nat_abs b)) (pos (nat_abs a)) p q)
on_edge p q a b h = (below 0 (nat_abs a) (some h).0, more (nat_abs a) (nat_abs b) (some h).1, on_way p q (nat_abs a) (nat_abs b))
  where
    below : (m n : ℕ) → m < n → pos m <ℤ pos n
    below m n l = (is_lt_z (pos m) (pos n)).0 (lt-ltb m n l)

    more : (m n : ℕ) → 0 < n → pos m <ℤ pos (m + n)
    more m n l = below m (m + n) (omega arith)

    some : Opposite a b → (0 < nat_abs a) × (0 < nat_abs b)
    some (inl e) = ((size_down a e.0).1, (size_up b e.1).1)
    some (inr e) = ((size_up a e.0).1, (size_down b e.1).1)

in_plane : (g : Polygon) (p q : Point) → Opposite (plane_side g p) (plane_side g q)
    → OnPlane g (piercing_point p q (plane_side g p) (plane_side g q)) (pos (nat_abs (plane_side g p) + nat_abs (plane_side g q)))
in_plane g p q h = pierced_on g p q ((is_opposite (plane_side g p) (plane_side g q)).1 h)

pub geometry : Geometry
geometry = record {
  on_segment = on_open_means;
  common = open_meets_means;
  loop_planes = loops_hold;
  seen_as = seen-is;
  region = loop_means;
  one_region = one_region;
  any_ray = every_ray_says;
  any_start = any_start;
  any_way = any_way;
  any_axis = any_axis;
  not_beyond = loop_not_beyond;
  convex = loop_convex;
  on_edge = on_edge;
  in_plane = in_plane;
  either_way = clash-either;
  corner_angle = corner_angles;
  by_place = by_place;
  first_border = meets_border;
  border_meets = border_meets;
  within_both = within_both;
  winds = λ d places taken turned six s. faces_wind d places taken turned (record { set = s.set; iii = s.iii });
  any_fan = fan-round;
}

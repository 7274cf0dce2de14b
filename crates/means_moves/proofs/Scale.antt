-- All coordinates k times as large: no test changes.
-- Every test is of numbers that take a factor above 0.
use mathlib.Core.Path.{◌≡◌, ap, ap₂, ◌∙◌}
use mathlib.Core.Bool.{cond}
use mathlib.Core.List.{List, [], ◌∷◌, map}
use lib.IntN.{ℤ, ◌*ℤ◌}
use Rattle.exact.proofs.Laws.{mul_left_commℤ}
use Rattle.exact.proofs.Order.{mul-pos}
use Rattle.exact.proofs.Signs.{pos-ne}
use Rattle.exact.proofs.Ring.{var, ◌⊖◌, ◌⊗◌, ring}
use Rattle.paper.specs.Points.{times}
use Rattle.paper.specs.Polygon.{Polygon, over, normal, axis, seen, turn, where_flat, lies}
use Rattle.paper.specs.declared.Point.{Point}
use Rattle.paper.specs.declared.Flat.{Flat}
use Rattle.paper.specs.declared.Axis.{Axis}
use Rattle.paper.specs.declared.Axis.TheVariants.{AlongX, AlongY, AlongZ}
use Rattle.paper_laws.proofs.Factors.{up_zero}
use Rattle.paper_laws.proofs.Vectors.{num, vec, x, ◌*s◌, v, ◌+v◌, ◌*v◌, ◌×v◌, ◌·◌, o, vring}
use Rattle.means_area.specs.Flats.{Up}
use Rattle.means_inside.specs.Means.{big}
use Rattle.means_inside.proofs.Place.{where_times, seen-times}
use Rattle.means_moves.specs.Moves.{Linear}
use Rattle.means_moves.proofs.Corners.{normal_moved, seen_moved}

normal-times : (k : ℤ) (g : Polygon) → normal (map (times k) g) ≡ times (k *ℤ k) (normal g)
normal-times k =
    normal_moved (times k) (times (k *ℤ k))
    (λ p q. vring (num k ∷ vec p ∷ vec q ∷ []) ((x 0 *v v 1) ×v (x 0 *v v 2)) ((x 0 *s x 0) *v (v 1 ×v v 2)) tt)
    (λ p q. vring (num k ∷ vec p ∷ vec q ∷ []) (((x 0 *s x 0) *v v 1) +v ((x 0 *s x 0) *v v 2)) ((x 0 *s x 0) *v (v 1 +v v 2)) tt)
    (vring (num k ∷ []) ((x 0 *s x 0) *v o) o tt)

axis-times : (k : ℤ) → Up k → (n : Point) → axis (times k n) ≡ axis n
unfolding axis times
axis-times k h n = λ i. cond (up_zero k h n.x i) (cond (up_zero k h n.y i) AlongZ AlongY) AlongX

-- a polygon and a point
pub lies-times : (k : ℤ) → Up k → (d : ℤ) (p : Point) (g : Polygon) → lies (over (times k p) d) (map (times k) g) ≡ lies (over p d) g
unfolding lies
lies-times k h d p g =
    ap (λ (a : Axis). where_flat (seen a (times k p)) d (map (seen a) (map (times k) g)))
    (ap axis (normal-times k g) ∙ axis-times (k *ℤ k) (mul-pos h h) (normal g))
    ∙ go (axis (normal g))
  where
    corners : (a : Flat) → big d (big k a) ≡ big k (big d a)
    corners a = λ i. record { u = mul_left_commℤ d k a.u i; v = mul_left_commℤ d k a.v i }

    turns : (p a b : Flat) → turn (big k a) (big k b) (big k p) d ≡ k *ℤ k *ℤ turn a b p d
    turns p a b = unfold turn in
        ring (k ∷ d ∷ p.u ∷ p.v ∷ a.u ∷ a.v ∷ b.u ∷ b.v ∷ [])
        ((var 0 ⊗ var 6 ⊖ var 0 ⊗ var 4) ⊗ (var 0 ⊗ var 3 ⊖ var 1 ⊗ (var 0 ⊗ var 5))
        ⊖ (var 0 ⊗ var 7 ⊖ var 0 ⊗ var 5) ⊗ (var 0 ⊗ var 2 ⊖ var 1 ⊗ (var 0 ⊗ var 4)))
        (var 0 ⊗ var 0 ⊗ ((var 6 ⊖ var 4) ⊗ (var 3 ⊖ var 1 ⊗ var 5) ⊖ (var 7 ⊖ var 5) ⊗ (var 2 ⊖ var 1 ⊗ var 4))) tt

    go : (a : Axis) → where_flat (seen a (times k p)) d (map (seen a) (map (times k) g)) ≡ where_flat (seen a p) d (map (seen a) g)
    go a =
        ap₂ (λ (q : Flat) (l : List Flat). where_flat q d l) (seen-times a k p) (seen_moved (times k) a a (big k) (seen-times a k) g)
        ∙ where_times (seen a p) d d k (k *ℤ k) h (mul-pos h h) (big k) corners (turns (seen a p)) (map (seen a) g)

-- the sides of a plane are k x k x k times as far
unfoldable pub scales : (k : ℤ) → Up k → Linear
scales k h = record {
  to = times k;
  across = times (k *ℤ k);
  dots_by = k *ℤ k;
  crosses_by = k *ℤ k *ℤ (k *ℤ k);
  sides_by = k *ℤ k *ℤ k;
  dots_up = mul-pos h h;
  crosses_up = mul-pos (mul-pos h h) (mul-pos h h);
  sides_real = pos-ne (mul-pos (mul-pos h h) h);
  sums = λ p q. vring (num k ∷ vec p ∷ vec q ∷ []) ((x 0 *v v 1) +v (x 0 *v v 2)) (x 0 *v (v 1 +v v 2)) tt;
  multiples = λ c p. vring (num k ∷ num c ∷ vec p ∷ []) (x 1 *v (x 0 *v v 2)) (x 0 *v (x 1 *v v 2)) tt;
  dots = λ p q. vring (num k ∷ vec p ∷ vec q ∷ []) ((x 0 *v v 1) · (x 0 *v v 2)) ((x 0 *s x 0) *s (v 1 · v 2)) tt;
  crosses = λ p q. vring (num k ∷ vec p ∷ vec q ∷ []) ((x 0 *v v 1) ×v (x 0 *v v 2)) ((x 0 *s x 0) *v (v 1 ×v v 2)) tt;
  across_sums = λ p q.
      vring (num k ∷ vec p ∷ vec q ∷ []) (((x 0 *s x 0) *v v 1) +v ((x 0 *s x 0) *v v 2)) ((x 0 *s x 0) *v (v 1 +v v 2)) tt;
  cross_dots = λ p q.
      vring (num k ∷ vec p ∷ vec q ∷ []) (((x 0 *s x 0) *v v 1) · ((x 0 *s x 0) *v v 2)) (((x 0 *s x 0) *s (x 0 *s x 0)) *s (v 1 · v 2)) tt;
  sides = λ n p. vring (num k ∷ vec n ∷ vec p ∷ []) (((x 0 *s x 0) *v v 1) · (x 0 *v v 2)) (((x 0 *s x 0) *s x 0) *s (v 1 · v 2)) tt;
  places = λ d up p g has on. lies-times k h d p g;
}

-- Points: the tests for zero and (0,0,0), equations that follow from others, and squares.
use mathlib.Core.Path.{◌≡◌, refl, sym, ◌∙◌, ap}
use mathlib.Core.Bool.{true, false, ◌&&◌, true≢false}
use mathlib.Core.List.{[], ◌∷◌}
use Prim.Native.Nat.{zero, suc}
use lib.IntN.{ℤ, pos, negsuc, ◌-ℤ◌, ◌*ℤ◌, ◌+ℤ◌, *ℤ-zero}
use lib.Signed.{◌≤ℤ◌, ◌<ℤ◌}
use Rattle.lists.proofs.Truth.{and_left, and_right}
use Rattle.lists.specs.Lists.{sides}
use Rattle.exact.proofs.Laws.{eq_of_sub}
use Rattle.exact.proofs.Signs.{mul-zero, square_zero, lt_of_le_ne, pos-ne}
use Rattle.exact.proofs.Order.{add_nonneg, sum-zero, square_nonneg}
use Rattle.paper.specs.Points.{pt, origin, is_zero, is_origin, plus, minus, times, dot, cross, same_point, sum}
use Rattle.paper.specs.declared.Point.{Point}
use Rattle.paper.specs.Polygon.{plane_side, normal, corner}
use Rattle.paper_laws.proofs.Vectors.{num, vec, k, x, ◌·◌, o, v, ◌+v◌, ◌-v◌, ◌*v◌, ◌×v◌, vring, ◌+s◌, ◌*s◌, ◌-s◌}

-- ---- zero, and the point (0,0,0)

pub zero_yes : (z : ℤ) → is_zero z ≡ true → z ≡ pos 0
unfolding is_zero
zero_yes (pos zero) e = refl
zero_yes (pos (suc n)) e = absurd (true≢false (sym e))
zero_yes (negsuc n) e = absurd (true≢false (sym e))

pub zero_is : {z : ℤ} → z ≡ pos 0 → is_zero z ≡ true
unfolding is_zero
zero_is e = ap is_zero e

pub zero_no : {z : ℤ} → is_zero z ≡ false → z ≡ pos 0 → ⊥
zero_no e q = true≢false (sym (zero_is q) ∙ e)

pub origin_yes : (p : Point) → is_origin p ≡ true → p ≡ origin
unfolding is_origin
origin_yes p e =
    let h = and_left (is_zero p.x && is_zero p.y) (is_zero p.z) e in
    λ i.
    record {
      x = zero_yes p.x (and_left (is_zero p.x) (is_zero p.y) h) i;
      y = zero_yes p.y (and_right (is_zero p.x) (is_zero p.y) h) i;
      z = zero_yes p.z (and_right (is_zero p.x && is_zero p.y) (is_zero p.z) e) i;
    }

pub origin_is : {p : Point} → p ≡ origin → is_origin p ≡ true
unfolding is_origin is_zero
origin_is e = ap is_origin e

pub origin_no : {p : Point} → is_origin p ≡ false → p ≡ origin → ⊥
origin_no {p} e q = true≢false (sym (origin_is q) ∙ e)

-- ---- equations

pub point_eq : (p q : Point) → minus p q ≡ origin → p ≡ q
point_eq p q e = vring (vec p ∷ vec q ∷ []) (v 0) (v 1 +v (v 0 -v v 1)) tt ∙ ap (plus q) e ∙ vring (vec q ∷ []) (v 0 +v o) (v 0) tt

pub point_diff : {p q : Point} → p ≡ q → minus p q ≡ origin
point_diff {p} {q} e = ap (λ (y : Point). minus y q) e ∙ vring (vec q ∷ []) (v 0 -v v 0) o tt

pub differ : {a b : Point} → (a ≡ b → ⊥) → minus b a ≡ origin → ⊥
differ {a} {b} n e = n (sym (point_eq b a e))

-- what follows from an equation whose difference it has, times a factor
pub from_eq : (m : ℤ) {a b c d : Point} → minus c d ≡ times m (minus a b) → a ≡ b → c ≡ d
from_eq m {a} {b} {c} {d} e h = point_eq c d (e ∙ ap (times m) (point_diff h) ∙ vring (num m ∷ []) (x 0 *v o) o tt)

-- the same of numbers, from an equation of points
pub from-dot : (m : Point) {a b : Point} {c d : ℤ} → c -ℤ d ≡ dot m (minus a b) → a ≡ b → c ≡ d
from-dot m {a} {b} {c} {d} e h = eq_of_sub c d (e ∙ ap (dot m) (point_diff h) ∙ vring (vec m ∷ []) (v 0 · o) (k (pos 0)) tt)

-- a factor that is not 0 goes out
pub scale_zero : (m : ℤ) (p : Point) → (m ≡ pos 0 → ⊥) → times m p ≡ origin → p ≡ origin
unfolding times
scale_zero m p n e =
    let first = mul-zero m p.x n (ap (λ (q : Point). q.x) e) in
    let second = mul-zero m p.y n (ap (λ (q : Point). q.y) e) in
    let third = mul-zero m p.z n (ap (λ (q : Point). q.z) e) in
    λ i. pt (first i) (second i) (third i)

pub cancel : (m : ℤ) (p q : Point) → (m ≡ pos 0 → ⊥) → times m p ≡ times m q → p ≡ q
cancel m p q n e =
    point_eq p q
    (scale_zero m (minus p q) n (vring (num m ∷ vec p ∷ vec q ∷ []) (x 0 *v (v 1 -v v 2)) ((x 0 *v v 1) -v (x 0 *v v 2)) tt
    ∙ point_diff e))

-- directions in one line
pub in_line_lem : (d w : Point) → cross d w ≡ origin → times (dot d d) w ≡ times (dot d w) d
in_line_lem d w e =
    point_eq (times (dot d d) w) (times (dot d w) d)
    (vring (vec d ∷ vec w ∷ []) ((v 0 · v 0) *v v 1 -v (v 0 · v 1) *v v 0) ((v 0 ×v v 1) ×v v 0) tt ∙ ap (λ (y : Point). cross y d) e
    ∙ vring (vec d ∷ []) (o ×v v 0) o tt)

-- ---- squares

pub self_nonneg : (p : Point) → pos 0 ≤ℤ dot p p
unfolding dot
self_nonneg p = add_nonneg (add_nonneg (square_nonneg p.x) (square_nonneg p.y)) (square_nonneg p.z)

pub self_zero : (p : Point) → dot p p ≡ pos 0 → p ≡ origin
unfolding dot
self_zero p e =
    let h = sum-zero (p.x *ℤ p.x) (p.y *ℤ p.y) (p.z *ℤ p.z) (square_nonneg p.x) (square_nonneg p.y) (square_nonneg p.z)
    e in
    λ i. pt (square_zero p.x h.0 i) (square_zero p.y h.1 i) (square_zero p.z h.2 i)

pub self_pos : (p : Point) → (p ≡ origin → ⊥) → pos 0 <ℤ dot p p
self_pos p n = lt_of_le_ne (self_nonneg p) (λ e. n (self_zero p (sym e)))

-- two points at one place
pub same_yes : (p q : Point) → same_point p q ≡ true → p ≡ q
unfolding same_point
same_yes p q e = point_eq p q (origin_yes (minus p q) e)

pub same_is : (p q : Point) → p ≡ q → same_point p q ≡ true
unfolding same_point
same_is p q e = origin_is (ap (λ (r : Point). minus r q) e ∙ vring (vec q ∷ []) (v 0 -v v 0) o tt)

-- ---- products

pub dot_comm : (p q : Point) → dot p q ≡ dot q p
dot_comm p q = vring (vec p ∷ vec q ∷ []) (v 0 · v 1) (v 1 · v 0) tt

pub dot-origin : (p : Point) → dot origin p ≡ pos 0
dot-origin p = vring (vec p ∷ []) (o · v 0) (k (pos 0)) tt

-- of no corners
pub empty_side : (p : Point) → plane_side [] p ≡ pos 0
unfolding plane_side normal sides sum corner
empty_side p = dot-origin (minus p origin)

pub dot-less : (n p q : Point) → dot n (minus p q) ≡ pos 0 → dot n p ≡ dot n q
dot-less n p q e =
    vring (vec n ∷ vec p ∷ vec q ∷ []) (v 0 · v 1) ((v 0 · (v 1 -v v 2)) +s (v 0 · v 2)) tt ∙ ap (λ (z : ℤ). z +ℤ dot n q) e
    ∙ vring (num (dot n q) ∷ []) (k (pos 0) +s x 0) (x 0) tt

pub dot_even : (n p q : Point) → dot n p ≡ dot n q → dot n (minus p q) ≡ pos 0
dot_even n p q e =
    vring (vec n ∷ vec p ∷ vec q ∷ []) (v 0 · (v 1 -v v 2)) ((v 0 · v 1) -s (v 0 · v 2)) tt ∙ ap (λ (z : ℤ). z -ℤ dot n q) e
    ∙ vring (num (dot n q) ∷ []) (x 0 -s x 0) (k (pos 0)) tt

-- ---- directions in one line

pub cross_turned : (p q : Point) → cross p q ≡ origin → cross q p ≡ origin
cross_turned p q e = vring (vec p ∷ vec q ∷ []) (v 1 ×v v 0) (o -v v 0 ×v v 1) tt ∙ ap (minus origin) e ∙ vring [] (o -v o) o tt

-- what is in line with p is in line with q, which is
pub cross-line : (p q r : Point) → (p ≡ origin → ⊥) → cross p q ≡ origin → cross p r ≡ origin → cross q r ≡ origin
cross-line p q r long e h =
    scale_zero (dot p p) (cross q r) (pos-ne (self_pos p long))
    (vring (num (dot p p) ∷ vec q ∷ vec r ∷ []) (x 0 *v (v 1 ×v v 2)) ((x 0 *v v 1) ×v v 2) tt
    ∙ ap (λ (w : Point). cross w r) (in_line_lem p q e)
    ∙ vring (num (dot p q) ∷ vec p ∷ vec r ∷ []) ((x 0 *v v 1) ×v v 2) (x 0 *v (v 1 ×v v 2)) tt ∙ ap (times (dot p q)) h
    ∙ vring (num (dot p q) ∷ []) (x 0 *v o) o tt)

-- what is across n is across what is in line with n
pub across_too : (n m w : Point) → (n ≡ origin → ⊥) → cross n m ≡ origin → dot n w ≡ pos 0 → dot m w ≡ pos 0
across_too n m w ne e h =
    mul-zero (dot n n) (dot m w) (pos-ne (self_pos n ne))
    (vring (num (dot n n) ∷ vec m ∷ vec w ∷ []) (x 0 *s (v 1 · v 2)) ((x 0 *v v 1) · v 2) tt ∙ ap (λ (p : Point). dot p w) (in_line_lem n m e)
    ∙ vring (num (dot n m) ∷ vec n ∷ vec w ∷ []) ((x 0 *v v 1) · v 2) (x 0 *s (v 1 · v 2)) tt ∙ ap (λ (z : ℤ). dot n m *ℤ z) h
    ∙ *ℤ-zero (dot n m))

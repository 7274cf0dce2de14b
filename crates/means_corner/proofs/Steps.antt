-- The first part of the way from a corner in a direction: its turns, and that it is in a triangle at whose corner the direction is in the
-- angle.
use mathlib.Core.Path.{◌≡◌, sym, ◌∙◌, ap, subst}
use mathlib.Core.List.{[], ◌∷◌}
use Prim.Native.Nat.{ℕ}
use lib.IntN.{ℤ, pos, neg_ℤ, ◌+ℤ◌, ◌-ℤ◌, ◌*ℤ◌}
use Rattle.exact.proofs.Ring.{var, con, ◌⊕◌, ◌⊖◌, ◌⊗◌, neg, ring}
use Rattle.exact.proofs.Order.{whole_nonneg, mul_nonneg}
use Rattle.paper.specs.declared.Flat.{Flat}
use Rattle.means_area.specs.Flats.{Up, Nn, twice_area, SameSign, both, none}
use Rattle.means_area.proofs.Flats.Signs.{up_is, nn_is, up_nn, off, zero_off}
use Rattle.means_area.proofs.Flats.Turns.{u_e, v_e, tE, spin, flat-first, flat-second}
use Rattle.means_inside.specs.Regions.{InTriangle, left, right}
use Rattle.means_inside.specs.Means.{big}
use Rattle.means_inside.specs.Convex.{Hand, lefts, rights, handed}
use Rattle.means_corner.specs.Ways.{ahead_by}
use Rattle.means_corner.specs.Corners.{ForSmall}
use Rattle.means_corner.proofs.Small.{then, stays}
use Rattle.means_corner.proofs.Cone.{t, Cone, narrow}

-- v + (s / n) (c - v), times n
abbrev pub step : Flat → Flat → ℕ → ℕ → Flat
step v c s n = ahead_by v (record { u = c.u -ℤ v.u; v = c.v -ℤ v.v }) (pos s) (pos n)

-- the turns of such a point
pub step_turn : (x y v c : Flat) (s n : ℕ)
    → twice_area (big (pos n) x) (big (pos n) y) (step v c s n)
    ≡ pos n *ℤ (pos n *ℤ twice_area x y v +ℤ pos s *ℤ (twice_area x y c -ℤ twice_area x y v))
unfolding twice_area
step_turn x y v c s n =
    ring (pos n ∷ x.u ∷ x.v ∷ y.u ∷ y.v ∷ v.u ∷ v.v ∷ c.u ∷ c.v ∷ pos s ∷ [])
    ((var 0 ⊗ u_e 1 ⊖ var 0 ⊗ u_e 0) ⊗ ((var 0 ⊗ v_e 2 ⊕ var 9 ⊗ (v_e 3 ⊖ v_e 2)) ⊖ var 0 ⊗ v_e 0)
    ⊖ (var 0 ⊗ v_e 1 ⊖ var 0 ⊗ v_e 0) ⊗ ((var 0 ⊗ u_e 2 ⊕ var 9 ⊗ (u_e 3 ⊖ u_e 2)) ⊖ var 0 ⊗ u_e 0))
    (var 0 ⊗ (var 0 ⊗ tE 0 1 2 ⊕ var 9 ⊗ (tE 0 1 3 ⊖ tE 0 1 2))) tt

hand_turn : (h : Hand) (x y v c : Flat) (s n : ℕ)
    → handed h (twice_area (big (pos n) x) (big (pos n) y) (step v c s n))
    ≡ pos n *ℤ (pos n *ℤ handed h (twice_area x y v) +ℤ pos s *ℤ (handed h (twice_area x y c) -ℤ handed h (twice_area x y v)))
hand_turn lefts x y v c s n = step_turn x y v c s n
hand_turn rights x y v c s n =
    ap neg_ℤ (step_turn x y v c s n)
    ∙ ring (pos n ∷ pos s ∷ twice_area x y v ∷ twice_area x y c ∷ []) (neg (var 0 ⊗ (var 0 ⊗ var 2 ⊕ var 1 ⊗ (var 3 ⊖ var 2))))
    (var 0 ⊗ (var 0 ⊗ neg (var 2) ⊕ var 1 ⊗ (neg (var 3) ⊖ neg (var 2)))) tt

hand_is : (h : Hand) {x y : ℤ} → x ≡ y → handed h x ≡ handed h y
hand_is h e = ap (handed h) e

in_hand : (h : Hand) (a b c p : Flat) → Nn (handed h (twice_area a b p)) → Nn (handed h (twice_area b c p)) → Nn (handed h (twice_area c a p))
    → InTriangle a b c p
in_hand lefts a b c p i j k = left i j k
in_hand rights a b c p i j k = right i j k

rotate : (a b c p : Flat) → InTriangle a b c p → InTriangle c a b p
rotate a b c p (left i j k) = left k i j
rotate a b c p (right i j k) = right k i j

module _ (m : ℤ) (h : Hand) (v c : Flat) where
  abbrev pub Into : (ℕ → Flat → Flat) → Flat → Flat → Flat → Type 0
  Into f x y z = ForSmall (λ s n. InTriangle (f n x) (f n y) (f n z) (step v c s n))

  abbrev pub B : ℕ → Flat → Flat
  B n = big (pos n)

  -- ---- a triangle, at its first corner, and at any

  at_v : (y z : Flat) → Up (t h v y z) → Cone h v y z c → Into B v y z
  at_v y z u k =
      let w = narrow h v y z c u k in
      let e = handed h (twice_area y z c) -ℤ handed h (twice_area y z v) in
      let b = stays (handed h (twice_area y z v)) e (up_is (hand_is h (spin v y z)) u) in (
        b.0,
        λ s n hs hn l. in_hand h (B n v) (B n y) (B n z) (step v c s n)
            (nn_is (sym (hand_turn h v y v c s n)) (mul_nonneg (whole_nonneg n)
            (nn_is (near-end s n (handed h (twice_area v y v)) (handed h (twice_area v y c)) (zero h (twice_area v y v) (flat-first v y)))
            (mul_nonneg (whole_nonneg s) w.0))))
            (nn_is (sym (hand_turn h y z v c s n)) (mul_nonneg (whole_nonneg n) (up_nn (b.1 s n hs hn l))))
            (nn_is (sym (hand_turn h z v v c s n)) (mul_nonneg (whole_nonneg n)
            (nn_is (near-end s n (handed h (twice_area z v v)) (handed h (twice_area z v c)) (zero h (twice_area z v v) (flat-second z v)))
            (mul_nonneg (whole_nonneg s) (nn_is (sym (hand_is h (spin z v c))) w.1))))),
      )
    where
      zero : (h : Hand) (x : ℤ) → x ≡ pos 0 → handed h x ≡ pos 0
      zero lefts x e = e
      zero rights x e = ap neg_ℤ e

      near-end : (s n : ℕ) (x y : ℤ) → x ≡ pos 0 → pos s *ℤ y ≡ pos n *ℤ x +ℤ pos s *ℤ (y -ℤ x)
      near-end s n x y e =
          ring (pos s ∷ pos n ∷ y ∷ []) (var 0 ⊗ var 2) (var 1 ⊗ con (pos 0) ⊕ var 0 ⊗ (var 2 ⊖ con (pos 0))) tt
          ∙ ap (λ (z : ℤ). pos n *ℤ z +ℤ pos s *ℤ (y -ℤ z)) (sym e)

  -- the hand of a triangle is that of its ring
  pub hand_of : (z : ℤ) → Up (handed h z) → (x : ℤ) → SameSign x z → Up (handed h x)
  hand_of z u x s = go h u s
    where
      go : (h : Hand) → Up (handed h z) → SameSign x z → Up (handed h x)
      go lefts u (both i j) = i
      go lefts u (none i j) = absurd (off u (up_nn j))
      go rights u (both i j) = absurd (off j (up_nn u))
      go rights u (none i j) = i

  pub apart_of : (x y z : Flat) → Up (handed h (twice_area x y z)) → y ≡ z → ⊥
  apart_of x y z u e = go h u
    where
      q : twice_area x y z ≡ pos 0
      q = ap (λ (w : Flat). twice_area x w z) e ∙ flat-second x z

      go : (h : Hand) → Up (handed h (twice_area x y z)) → ⊥
      go lefts u = zero_off q u
      go rights u = zero_off (ap neg_ℤ q) u

  -- in terms of the ring's order: y comes next after v, z before it
  pub first : (x y z : Flat) → Up (handed h (twice_area x y z)) → x ≡ v → Cone h v y z c → Into B x y z
  first x y z u e k =
      subst (λ (w : Flat). Into B w y z) (sym e) (at_v y z (subst (λ (w : Flat). Up (handed h (twice_area w y z))) e u) k)

  pub second : (x y z : Flat) → Up (handed h (twice_area x y z)) → y ≡ v → Cone h v z x c → Into B x y z
  second x y z u e k =
      then (λ s n i. rotate (B n y) (B n z) (B n x) (step v c s n) i) (first y z x (up_is (hand_is h (spin x y z)) u) e k)

  pub third : (x y z : Flat) → Up (handed h (twice_area x y z)) → z ≡ v → Cone h v x y c → Into B x y z
  third x y z u e k =
      then (λ s n i. rotate (B n y) (B n z) (B n x) (step v c s n) i) (second y z x (up_is (hand_is h (spin x y z)) u) e k)

  pub cone_is : {a b a' b' : Flat} → a ≡ a' → b ≡ b' → Cone h v b a c → Cone h v b' a' c
  cone_is {a} {b} {a'} {b'} p q k = subst (λ (x : Flat). Cone h v x a' c) q (subst (λ (x : Flat). Cone h v b x c) p k)

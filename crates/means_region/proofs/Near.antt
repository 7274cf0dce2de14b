-- An apex near to another in direction, K p + w for a large K, sees every tetrahedron as that one does.
use mathlib.Core.Path.{◌≡◌, refl, sym, ◌∙◌, ap, ap₂}
use mathlib.Core.Logic.{◌⊎◌, inl, inr}
use mathlib.Core.List.{[], ◌∷◌}
use Prim.Native.Nat.{ℕ, zero, suc, ◌+◌, ◌≤◌, ◌<◌}
use native.Mathlib.Omega.{arith}
use lib.IntN.{ℤ, pos, negsuc, neg_ℤ, nat_abs, ◌+ℤ◌, ◌-ℤ◌, ◌*ℤ◌}
use lib.ListN.{length, get_or}
use Rattle.exact.proofs.Ring.{var, con, ◌⊕◌, ◌⊖◌, ◌⊗◌, neg, ring}
use Rattle.exact.proofs.Linear.{lt_by}
use Rattle.exact.proofs.Order.{whole_nonneg, from_one, mul_nonneg}
use Rattle.exact.proofs.Signs.{pos-ne}
use Rattle.paper.specs.Points.{origin, plus, times, det, above}
use Rattle.paper.specs.Polygon.{Polygon}
use Rattle.paper.specs.declared.Point.{Point}
use Rattle.paper_laws.proofs.Vectors.{num, vec, x, v, ◌+s◌, ◌*s◌, dets, ◌+v◌, ◌*v◌, vring}
use Rattle.means_area.specs.Flats.{Up}
use Rattle.means_area.proofs.Flats.Signs.{up_is, up_nn, nn_up, ways}
use Rattle.means_inside.proofs.Beams.{above_is, above_no}
use Rattle.means_region.specs.Tetra.{alternate, holds}
use Rattle.means_region.specs.Winding.{fan_holds, face_holds}
use Rattle.means_region.proofs.Move.{Real}
use Rattle.means_region.proofs.Fan.{Spread}

-- ---- what holds from some number on

abbrev pub Large : (ℕ → Type 0) → Type 0
Large P = (b : ℕ) × ((n : ℕ) → b ≤ n → P n)

-- finitely many such things hold together
pub all_large : (n : ℕ) (P : ℕ → ℕ → Type 0) → ((i : ℕ) → i < n → Large (P i)) → Large (λ m. (i : ℕ) → i < n → P i m)
all_large zero P f = (0, λ m h i l. absurd (omega arith))
all_large (suc n) P f =
    let a = f 0 (omega arith) in
    let r = all_large n (λ i. P (suc i)) (λ i l. f (suc i) (omega arith)) in
    (a.0 + r.0, λ m h. both a.0 r.0 a.1 r.1 m h)
  where
    both : (b c : ℕ) → ((m : ℕ) → b ≤ m → P 0 m) → ((m : ℕ) → c ≤ m → (i : ℕ) → i < n → P (suc i) m) → (m : ℕ) → b + c ≤ m
        → (i : ℕ) → i < suc n → P i m
    both b c p q m h zero l = p m (omega arith)
    both b c p q m h (suc i) l = q m (omega arith) i (omega arith)

-- ---- the sign of m z + e is that of z, for large m

beyond : (m : ℕ) (e : ℤ) → suc (nat_abs e) ≤ m → Up (pos m +ℤ e)
beyond m (pos n) h = lt_by (pos m ∷ pos n ∷ []) (con (pos 0)) (var 0 ⊕ var 1) (omega arith)
beyond m (negsuc n) h = lt_by (pos m ∷ negsuc n ∷ []) (con (pos 0)) (var 0 ⊕ var 1) (omega arith)

beneath : (m : ℕ) (e : ℤ) → suc (nat_abs e) ≤ m → Up (pos m -ℤ e)
beneath m (pos n) h = lt_by (pos m ∷ pos n ∷ []) (con (pos 0)) (var 0 ⊖ var 1) (omega arith)
beneath m (negsuc n) h = lt_by (pos m ∷ negsuc n ∷ []) (con (pos 0)) (var 0 ⊖ var 1) (omega arith)

pub record Alike (y z : ℤ) : Type 0 where
  pub real : Real y
  pub same : above y ≡ above z

pub alike : (m : ℕ) (z e : ℤ) → Real z → suc (nat_abs e) ≤ m → Alike (pos m *ℤ z +ℤ e) z
alike m z e r h = go (ways z)
  where
    go : Up z ⊎ ((z ≡ pos 0) ⊎ Up (neg_ℤ z)) → Alike (pos m *ℤ z +ℤ e) z
    go (inl u) =
        let w : Up (pos m *ℤ z +ℤ e) = up_is
        (ring (pos m ∷ z ∷ e ∷ []) (var 0 ⊗ (var 1 ⊖ con (pos 1)) ⊕ (var 0 ⊕ var 2)) (var 0 ⊗ var 1 ⊕ var 2) tt)
        (nn_up (mul_nonneg (whole_nonneg m) (from_one z u)) (beyond m e h)) in
        record { real = pos-ne w; same = above_is (pos m *ℤ z +ℤ e) w ∙ sym (above_is z u) }
    go (inr (inl q)) = absurd (r q)
    go (inr (inr u)) =
        let w : Up (neg_ℤ (pos m *ℤ z +ℤ e)) = up_is
        (ring (pos m ∷ z ∷ e ∷ []) (var 0 ⊗ (neg (var 1) ⊖ con (pos 1)) ⊕ (var 0 ⊖ var 2)) (neg (var 0 ⊗ var 1 ⊕ var 2)) tt)
        (nn_up (mul_nonneg (whole_nonneg m) (from_one (neg_ℤ z) u)) (beneath m e h)) in
        record { real = λ q. pos-ne w (ap neg_ℤ q); same = above_no (pos m *ℤ z +ℤ e) (up_nn w) ∙ sym (above_no z (up_nn u)) }

-- ---- apexes

-- q sees the points of g in the way that p does
abbrev pub Views : Point → Point → Polygon → Type 0
Views q p g = (i j : ℕ) → i < j → j < length g → Alike (det q (get_or g i origin) (get_or g j origin)) (det p (get_or g i origin)
    (get_or g j origin))

abbrev pub near : Point → Point → ℕ → Point
near p w m = plus (times (pos m) p) w

pub views_large : (p w : Point) (g : Polygon) → Spread p g → Large (λ m. Views (near p w m) p g)
views_large p w g s =
    let r = all_large (length g) (λ j m. (i : ℕ) → i < j → Alike (det (near p w m) (z i) (z j)) (det p (z i) (z j))) (λ j h.
    all_large j (λ i m. Alike (det (near p w m) (z i) (z j)) (det p (z i) (z j))) (λ i l. one i j l h)) in
    (r.0, λ m h i j l k. r.1 m h j k i l)
  where
    z : ℕ → Point
    z i = get_or g i origin

    one : (i j : ℕ) → i < j → j < length g → Large (λ m. Alike (det (near p w m) (z i) (z j)) (det p (z i) (z j)))
    one i j l k = (suc (nat_abs (det w (z i) (z j))), λ m h. at m h)
      where
        at : (m : ℕ) → suc (nat_abs (det w (z i) (z j))) ≤ m → Alike (det (near p w m) (z i) (z j)) (det p (z i) (z j))
        at m h =
            let a = alike m (det p (z i) (z j)) (det w (z i) (z j)) (s i j l k) h in
            let e : det (near p w m) (z i) (z j) ≡ pos m *ℤ det p (z i) (z j) +ℤ det w (z i) (z j)
            = vring (num (pos m) ∷ vec p ∷ vec w ∷ vec (z i) ∷ vec (z j) ∷ []) (dets ((x 0 *v v 1) +v v 2) (v 3) (v 4))
            ((x 0 *s dets (v 1) (v 3) (v 4)) +s dets (v 2) (v 3) (v 4)) tt in
            record { real = λ q. a.real (sym e ∙ q); same = ap above e ∙ a.same }

views_less : (q p a b : Point) (r : Polygon) → Views q p (a ∷ (b ∷ r)) → Views q p (a ∷ r)
views_less q p a b r s zero zero h l = absurd (omega arith)
views_less q p a b r s zero (suc j) h l = s 0 (suc (suc j)) (omega arith) (omega arith)
views_less q p a b r s (suc i) zero h l = absurd (omega arith)
views_less q p a b r s (suc i) (suc j) h l = s (suc (suc i)) (suc (suc j)) (omega arith) (omega arith)

fan-same : (q p a b : Point) (r : Polygon) → Views q p (a ∷ (b ∷ r)) → fan_holds q a (b ∷ r) ≡ fan_holds p a (b ∷ r)
unfolding fan_holds holds
fan-same q p a b [] s = refl
fan-same q p a b (c ∷ r) s =
    ap₂ ◌+ℤ◌
    (λ i.
    alternate (above (det a b c)) ((s 1 2 (omega arith) (omega arith)).same i) ((s 0 2 (omega arith) (omega arith)).same i)
    ((s 0 1 (omega arith) (omega arith)).same i)) (fan-same q p a c r (views_less q p a b (c ∷ r) s))

pub face-same : (q p : Point) (g : Polygon) → Views q p g → face_holds q g ≡ face_holds p g
unfolding face_holds fan_holds
face-same q p [] s = refl
face-same q p (a ∷ []) s = refl
face-same q p (a ∷ (b ∷ r)) s = fan-same q p a b r s

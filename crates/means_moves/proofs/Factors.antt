-- Whole numbers: the tests of a drawing after a product with a number above 0, and of two sides with one that is not 0.
use mathlib.Core.Path.{◌≡◌, refl, ap, ap₂, ◌∙◌}
use mathlib.Core.Bool.{true, not, ◌&&◌, ◌||◌, xor}
use mathlib.Core.Logic.{◌⊎◌, inl, inr}
use mathlib.Core.List.{[], ◌∷◌}
use Prim.Native.Nat.{ℕ, zero, suc, ◌*◌}
use native.Mathlib.Omega.{arith}
use lib.IntN.{ℤ, pos, negsuc, neg_ℤ, nat_abs, ◌*ℤ◌}
use Rattle.exact.proofs.Ring.{var, con, ◌⊗◌, neg, ring}
use Rattle.paper.specs.Points.{above}
use Rattle.paper.specs.Drawing.{overlap, cuts_open}
use Rattle.paper.specs.Clash.{opposite}
use Rattle.paper_laws.proofs.Factors.{le_times, lt_times, low_times, high_times, above-times, below-times}
use Rattle.means_area.specs.Flats.{Up}
use Rattle.means_area.proofs.Flats.Signs.{ways}
use Rattle.means_moves.specs.Turned.{turns_by}
use Rattle.means_moves.proofs.Numbers.{opposite-neg}

-- ---- one, two, and minus one

pub one_up : Up (pos 1)
one_up = record { lt = tt }

pub two_up : Up (pos 2)
two_up = record { lt = tt }

pub minus_one : (z : ℤ) → negsuc 0 *ℤ z ≡ neg_ℤ z
minus_one z = ring (z ∷ []) (neg (con (pos 1)) ⊗ var 0) (neg (var 0)) tt

pub minus-one_real : negsuc 0 ≡ pos 0 → ⊥
minus-one_real e = let z : ◌≡◌ {A = ℕ} 1 0 = ap nat_abs e in absurd (omega arith)

down : (n : ℕ) → (neg_ℤ (pos n) ≡ pos 0 → ⊥) → turns_by (neg_ℤ (pos n)) ≡ true
down zero h = absurd (h refl)
down (suc n) h = refl

-- the product of two is below 0 where one of them is
pub turns_times : (c z : ℤ) → (c *ℤ z ≡ pos 0 → ⊥) → turns_by (c *ℤ z) ≡ xor (turns_by c) (turns_by z)
unfolding xor
turns_times (pos a) (pos b) h = refl
turns_times (pos a) (negsuc b) h = down (a * suc b) h
turns_times (negsuc a) (pos b) h = down (suc a * b) h
turns_times (negsuc a) (negsuc b) h = refl

-- ---- a factor above 0

module _ (k : ℤ) (h : Up k) where
  -- the tests of a drawing
  pub overlap-times : (p q m : ℤ) → overlap (k *ℤ p) (k *ℤ q) (k *ℤ m) ≡ overlap p q m
  unfolding overlap
  overlap-times p q m = λ i. not (low_times k h p i && low_times k h q i) && not (le_times k h m p i && le_times k h m q i)

  pub cuts_times : (t s m : ℤ) → cuts_open (k *ℤ t) (k *ℤ s) (k *ℤ m) ≡ cuts_open t s m
  unfolding cuts_open above
  cuts_times t s m = λ i. above-times k h t i && lt_times k h t m i && (high_times k h s i && le_times k h s m i)

  up_opposite : (a b : ℤ) → opposite (k *ℤ a) (k *ℤ b) ≡ opposite a b
  unfolding opposite
  up_opposite a b = λ i. below-times k h a i && above-times k h b i || above-times k h a i && below-times k h b i

-- a factor below 0 exchanges the sides
pub opposite-times : (z : ℤ) → (z ≡ pos 0 → ⊥) → (a b : ℤ) → opposite (z *ℤ a) (z *ℤ b) ≡ opposite a b
opposite-times z h a b = go (ways z)
  where
    turn : (c : ℤ) → z *ℤ c ≡ neg_ℤ (neg_ℤ z *ℤ c)
    turn c = ring (z ∷ c ∷ []) (var 0 ⊗ var 1) (neg (neg (var 0) ⊗ var 1)) tt

    go : Up z ⊎ ((z ≡ pos 0) ⊎ Up (neg_ℤ z)) → opposite (z *ℤ a) (z *ℤ b) ≡ opposite a b
    go (inl u) = up_opposite z u a b
    go (inr (inl e)) = absurd (h e)
    go (inr (inr u)) = ap₂ opposite (turn a) (turn b) ∙ opposite-neg (neg_ℤ z *ℤ a) (neg_ℤ z *ℤ b) ∙ up_opposite (neg_ℤ z) u a b

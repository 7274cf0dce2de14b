-- Tests of whole numbers after a product with a number above 0, or with one that is not 0.
use mathlib.Core.Path.{◌≡◌, sym, ap, ◌∙◌}
use lib.IntN.{ℤ, pos, ◌*ℤ◌, *ℤ-zero}
use lib.Signed.{le_z, lt_z, ◌<ℤ◌}
use Rattle.lists.proofs.Truth.{same_truth}
use Rattle.exact.proofs.Order.{mul-lt, mul-le, lt_cancel, le_cancel}
use Rattle.exact.proofs.Signs.{mul-zero, lt_is, lt_yes, le_is, le_yes, pos-ne, <ℤ-≤ℤ}
use Rattle.paper.specs.Points.{is_zero, above, below}
use Rattle.paper_laws.proofs.Points.{zero_yes, zero_is}

pub zero_times : (z : ℤ) → (z ≡ pos 0 → ⊥) → (a : ℤ) → is_zero (z *ℤ a) ≡ is_zero a
zero_times z h a =
    same_truth (is_zero (z *ℤ a)) (is_zero a) (λ e. zero_is (mul-zero z a h (zero_yes (z *ℤ a) e)))
    (λ e. zero_is (ap (λ (y : ℤ). z *ℤ y) (zero_yes a e) ∙ *ℤ-zero z))

module _ (k : ℤ) (h : pos 0 <ℤ k) where
  pub le_times : (a b : ℤ) → le_z (k *ℤ a) (k *ℤ b) ≡ le_z a b
  le_times a b =
      same_truth (le_z (k *ℤ a) (k *ℤ b)) (le_z a b) (λ e. le_is (le_cancel k h (le_yes e))) (λ e. le_is (mul-le k (<ℤ-≤ℤ h) (le_yes e)))

  pub lt_times : (a b : ℤ) → lt_z (k *ℤ a) (k *ℤ b) ≡ lt_z a b
  lt_times a b =
      same_truth (lt_z (k *ℤ a) (k *ℤ b)) (lt_z a b) (λ e. lt_is (lt_cancel k h (lt_yes e))) (λ e. lt_is (mul-lt k h (lt_yes e)))

  pub up_zero : (a : ℤ) → is_zero (k *ℤ a) ≡ is_zero a
  up_zero = zero_times k (pos-ne h)

  -- against 0
  pub low_times : (a : ℤ) → le_z (k *ℤ a) (pos 0) ≡ le_z a (pos 0)
  low_times a = ap (le_z (k *ℤ a)) (sym (*ℤ-zero k)) ∙ le_times a (pos 0)

  pub high_times : (a : ℤ) → le_z (pos 0) (k *ℤ a) ≡ le_z (pos 0) a
  high_times a = ap (λ (z : ℤ). le_z z (k *ℤ a)) (sym (*ℤ-zero k)) ∙ le_times (pos 0) a

  pub above-times : (a : ℤ) → above (k *ℤ a) ≡ above a
  unfolding above
  above-times a = ap (λ (z : ℤ). lt_z z (k *ℤ a)) (sym (*ℤ-zero k)) ∙ lt_times (pos 0) a

  pub below-times : (a : ℤ) → below (k *ℤ a) ≡ below a
  unfolding below
  below-times a = ap (lt_z (k *ℤ a)) (sym (*ℤ-zero k)) ∙ lt_times a (pos 0)

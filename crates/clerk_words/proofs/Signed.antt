-- A signed number and its two's complement: −1 less the one leads to the other.
use mathlib.Core.Bool.{Bool, true, false, cond, true≢false}
use mathlib.Core.Path.{◌≡◌, refl, sym, ap, ◌∙◌, subst}
use Prim.Native.Nat.{ℕ, zero, suc, ◌-◌, ◌^◌, ◌≤◌, ◌<◌}
use native.Mathlib.Nat.{not-suc-le-zero, zero-add}
use native.Mathlib.Omega.{arith}
use borrow.Author.Tests.{le-ltb}
use lib.Dec.{T, ltb→lt}
use lib.IntN.{ℤ, pos, negsuc, nat_abs, ◌-ℤ◌}
use lib.Signed.{lt_z, non_neg}
use mir.Syntax.{w64}
use mir.Val.{Fits, SFits, of_z, to_z}
use mir.ValLaws.{to_z-of_z}
use Rattle.clerk_words.specs.Words.{word_of, number_of}

-- a number as the machine reads it
abbrev pub again : ℤ → ℤ
again z = to_z w64 (of_z w64 z)

pub again_is : (z : ℤ) → SFits w64 z → again z ≡ z
again_is z f = to_z-of_z w64 z f

-- ---- a number to its word

-- what is asked of a number that is to be cast, and the word that it gives
abbrev pub Casts : ℤ → Type 0
Casts z = T (non_neg z) × Fits w64 (nat_abs z)

-- y is z below 0: −1 less it
pub record Below (y z : ℤ) : Type 0 where
  pub sub-fits : SFits w64 (negsuc 0 -ℤ y)
  pub casts : Casts (again (negsuc 0 -ℤ y))
  pub word_is : 18446744073709551615 - nat_abs (again (negsuc 0 -ℤ y)) ≡ word_of z

left_of : (n : ℕ) → negsuc 0 -ℤ negsuc n ≡ pos n
left_of n =
    let e : suc n - 1 ≡ n = omega arith in
    ap (λ (b : Bool). cond b (negsuc (1 - suc (suc n))) (pos (suc n - 1))) (le-ltb (suc n) 1 (omega arith)) ∙ ap pos e

below_at : (z : ℤ) → SFits w64 z → lt_z z (pos 0) ≡ true → Below z z
below_at (pos n) f t = absurd (not-suc-le-zero (ltb→lt n 0 (subst T (sym t) tt)))
below_at (negsuc n) f t =
    let whole : SFits w64 (pos n) = record { sfits = f.sfits } in
    let e : again (negsuc 0 -ℤ negsuc n) ≡ pos n = ap again (left_of n) ∙ again_is (pos n) whole in
    let last : 18446744073709551615 - n ≡ 2 ^ 64 - suc n = omega arith in
    record {
      sub-fits = subst (λ (z : ℤ). SFits w64 z) (sym (left_of n)) whole;
      casts = subst Casts (sym e) (tt, record { fits = omega (arith, f.sfits) });
      word_is = ap (λ (z : ℤ). 18446744073709551615 - nat_abs z) e ∙ last;
    }

module _ (z : ℤ) (f : SFits w64 z) where
  pub below : lt_z (again z) (pos 0) ≡ true → Below (again z) z
  below t =
      let e = again_is z f in
      subst (λ (y : ℤ). Below y z) (sym e) (below_at z f (ap (λ (y : ℤ). lt_z y (pos 0)) (sym e) ∙ t))

-- of another, which is its own word
at_least : (z : ℤ) → SFits w64 z → lt_z z (pos 0) ≡ false → Casts z × (nat_abs z ≡ word_of z)
at_least (pos n) f t = ((tt, record { fits = omega (arith, f.sfits) }), refl)
at_least (negsuc n) f t = absurd (true≢false t)

module _ (z : ℤ) (f : SFits w64 z) where
  pub not-below : lt_z (again z) (pos 0) ≡ false → Casts (again z) × (nat_abs (again z) ≡ word_of z)
  not-below t =
      let e = again_is z f in
      subst (λ (y : ℤ). Casts y × (nat_abs y ≡ word_of z)) (sym e) (at_least z f (ap (λ (y : ℤ). lt_z y (pos 0)) (sym e) ∙ t))

-- ---- a word of a number below 0, back to it

minus-one-less : (n : ℕ) → negsuc 0 -ℤ pos n ≡ negsuc n
minus-one-less zero = refl
minus-one-less (suc n) = ap (λ (m : ℕ). negsuc (suc m)) (zero-add n)

module _ (w : ℕ) (low : 2 ^ 63 ≤ w) (high : w < 2 ^ 64) where
  abbrev apart : ℕ
  apart = 18446744073709551615 - w

  small : SFits w64 (negsuc apart)
  small = record { sfits = omega arith }

  made : negsuc 0 -ℤ to_z w64 apart ≡ negsuc apart
  made = ap (λ (z : ℤ). negsuc 0 -ℤ z) (again_is (pos apart) (record { sfits = omega arith })) ∙ minus-one-less apart

  pub made-fits : SFits w64 (negsuc 0 -ℤ to_z w64 apart)
  made-fits = subst (λ (z : ℤ). SFits w64 z) (sym made) small

  pub number_is : again (negsuc 0 -ℤ to_z w64 apart) ≡ number_of w
  number_is =
      let e : apart ≡ 2 ^ 64 - suc w = omega arith in
      ap again made
      ∙ again_is (negsuc apart) small
      ∙ ap negsuc e
      ∙ ap (λ (b : Bool). cond b (pos w) (negsuc (2 ^ 64 - suc w))) (sym (le-ltb w (2 ^ 63) low))

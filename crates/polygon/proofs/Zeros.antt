-- A number as its bits hold it: it reads back as itself, `z == 0` tests it, and its size.
use mathlib.Core.Path.{◌≡◌, refl, sym, ap, subst}
use mathlib.Core.Bool.{Bool, true, false}
use Prim.Native.Nat.{ℕ, zero, suc, ◌^◌, ◌<◌}
use native.Mathlib.Nat.{not-suc-le-zero}
use lib.Dec.{eqb, ltb→lt}
use lib.IntN.{ℤ, pos, negsuc, neg_ℤ, nat_abs}
use lib.Signed.{◌<ℤ◌, ◌≤ℤ◌, mag}
use mir.Syntax.{w64}
use mir.Val.{SFits, of_z, to_z, hbits}
use borrow.Author.Tests.{eqb-true, eqb-false}
use Rattle.exact.proofs.Machine.{plain, lit, eq_taken, eq_left}
use Rattle.exact.specs.Size.{Within}
use Rattle.paper.specs.Points.{is_zero}

-- of a call's result, by its `.ok`; of a struct's field, by what the struct tells
pub reads_back : (z : ℤ) → mag z < 2 ^ hbits w64 → to_z w64 (of_z w64 z) ≡ z
reads_back z h = (plain (record { sfits = h })).reading

zero_no : (z : ℤ) → (z ≡ pos 0 → ⊥) → is_zero z ≡ false
unfolding is_zero
zero_no (pos zero) h = absurd (h refl)
zero_no (pos (suc n)) h = refl
zero_no (negsuc n) h = refl

pub zero_is : (z : ℤ) → SFits w64 z → eqb (of_z w64 z) 0 ≡ is_zero z
unfolding is_zero
zero_is z h = go (eqb (of_z w64 z) 0) refl
  where
    go : (t : Bool) → eqb (of_z w64 z) 0 ≡ t → t ≡ is_zero z
    go true e = sym (ap is_zero (eq_taken (plain h) (lit (pos 0) tt) (eqb-true (of_z w64 z) 0 e)))
    go false e = sym (zero_no z (eq_left z (pos 0) (eqb-false (of_z w64 z) 0 e)))

-- the size of a number below zero, and of one that is not
pub neg_abs : {z : ℤ} → z <ℤ pos 0 → neg_ℤ z ≡ pos (nat_abs z)
neg_abs {z = pos n} h = absurd (not-suc-le-zero (ltb→lt n 0 h.lt))
neg_abs {z = negsuc n} h = refl

pub same_abs : {z : ℤ} → pos 0 ≤ℤ z → z ≡ pos (nat_abs z)
same_abs {z = pos n} h = refl
same_abs {z = negsuc n} h = absurd h.le

pub abs_within : {n : ℕ} {y z : ℤ} → y ≡ pos (nat_abs z) → Within n z → Within n y
abs_within {n} e h = subst (λ (y : ℤ). Within n y) (sym e) (record { within = h.within })

-- How `Within`, the bound on a number's size, passes through sums, differences and products, and that such a number fits the machine.
use mathlib.Core.Path.{◌≡◌, refl, sym, subst}
use mathlib.Core.Bool.{Bool, true, false, not, cond}
use Prim.Native.Nat.{ℕ, zero, suc, ◌+◌, ◌*◌, ◌-◌, ◌^◌, ◌≤◌, ◌<◌}
use native.Mathlib.Nat.{le_refl, le_trans, lt_of_le_of_lt, mul-le-mul, le-suc}
use native.Mathlib.Omega.{arith}
use lib.Dec.{T, leb, ltb, leb→le, ltb→lt}
use lib.IntN.{ℤ, pos, negsuc, neg_ℤ, nat_abs, sub_ℕ, ◌+ℤ◌, ◌-ℤ◌, ◌*ℤ◌}
use lib.Signed.{mag}
use mir.Syntax.{Width}
use mir.Val.{SFits, hbits}
use Rattle.exact.specs.Size.{Within}

pub abs_neg : (z : ℤ) → nat_abs (neg_ℤ z) ≡ nat_abs z
abs_neg (pos zero) = refl
abs_neg (pos (suc n)) = refl
abs_neg (negsuc n) = refl

pub abs_mul : (a b : ℤ) → nat_abs (a *ℤ b) ≡ nat_abs a * nat_abs b
abs_mul (pos a) (pos b) = refl
abs_mul (pos a) (negsuc b) = abs_neg (pos (a * suc b))
abs_mul (negsuc a) (pos b) = abs_neg (pos (suc a * b))
abs_mul (negsuc a) (negsuc b) = refl

-- `sub_ℕ` picks its case by `cond`
pub cond_ind : (c : Bool) (x y : ℤ) (P : ℤ → Type 0) → (T c → P x) → (T (not c) → P y) → P (cond c x y)
cond_ind true x y P f g = f tt
cond_ind false x y P f g = g tt

abs_subℕ : (a b : ℕ) → nat_abs (sub_ℕ a b) ≤ a + b
abs_subℕ a b =
    cond_ind (ltb a b) (negsuc (b - suc a)) (pos (a - b)) (λ z. nat_abs z ≤ a + b)
    (λ t. less a b (ltb→lt a b t)) (λ t. more a b)
  where
    less : (a b : ℕ) → a < b → suc (b - suc a) ≤ a + b
    less a b h = omega arith

    more : (a b : ℕ) → a - b ≤ a + b
    more a b = omega arith

abs_add : (a b : ℤ) → nat_abs (a +ℤ b) ≤ nat_abs a + nat_abs b
abs_add (pos a) (pos b) = le_refl (a + b)
abs_add (pos a) (negsuc b) = abs_subℕ a (suc b)
abs_add (negsuc a) (pos b) = flip a b (abs_subℕ b (suc a))
  where
    flip : (a b : ℕ) {k : ℕ} → k ≤ b + suc a → k ≤ suc a + b
    flip a b h = omega arith
abs_add (negsuc a) (negsuc b) = omega arith

pub within_add : {m n : ℕ} {a b : ℤ} → Within m a → Within n b → Within (m + n) (a +ℤ b)
within_add {m} {n} {a} {b} h k = record { within = go (nat_abs (a +ℤ b)) (nat_abs a) (nat_abs b) (abs_add a b) h.within k.within }
  where
    go : (s x y : ℕ) → s ≤ x + y → x ≤ m → y ≤ n → s ≤ m + n
    go s x y e p q = omega arith

pub within_neg : {n : ℕ} {a : ℤ} → Within n a → Within n (neg_ℤ a)
within_neg {n} {a} h = record { within = subst (λ (k : ℕ). k ≤ n) (sym (abs_neg a)) h.within }

pub within_sub : {m n : ℕ} {a b : ℤ} → Within m a → Within n b → Within (m + n) (a -ℤ b)
within_sub h k = within_add h (within_neg k)

pub within_mul : {m n : ℕ} {a b : ℤ} → Within m a → Within n b → Within (m * n) (a *ℤ b)
within_mul {m} {n} {a} {b} h k = record { within = subst (λ (s : ℕ). s ≤ m * n) (sym (abs_mul a b)) (mul-le-mul h.within k.within) }

pub within_le : {m n : ℕ} {z : ℤ} → m ≤ n → Within m z → Within n z
within_le p h = record { within = le_trans h.within p }

-- the same of two numerals: `t` is `tt`
pub within_up : {m n : ℕ} {z : ℤ} → T (leb m n) → Within m z → Within n z
within_up {m} {n} t h = within_le (leb→le m n t) h

-- a number that is written out
pub within_lit : {n : ℕ} {z : ℤ} → T (leb (nat_abs z) n) → Within n z
within_lit {n} {z} t = record { within = leb→le (nat_abs z) n t }

mag_abs : (z : ℤ) → mag z ≤ nat_abs z
mag_abs (pos n) = le_refl n
mag_abs (negsuc n) = le-suc n

pub fits_within : {w : Width} {n : ℕ} {z : ℤ} → T (ltb n (2 ^ hbits w)) → Within n z → SFits w z
fits_within {w} {n} {z} t h = record { sfits = lt_of_le_of_lt (le_trans (mag_abs z) h.within) (ltb→lt n (2 ^ hbits w) t) }

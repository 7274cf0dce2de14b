-- A number by its digits: each by its place, and the number by all of them. No width is named here.
use mathlib.Core.Path.{◌≡◌, refl, sym, ap, ◌∙◌}
use mathlib.Core.Bool.{Bool, true, false, ◌||◌, ◌&&◌, or-false}
use mathlib.Core.List.{List, [], ◌∷◌}
use mathlib.Core.Logic.{◌⊎◌, inl, inr, ⊎_elim}
use Prim.Native.Nat.{ℕ, zero, suc, ◌+◌, ◌-◌, ◌/◌, ◌%◌, ◌^◌, ◌≤◌, ◌<◌}
use native.Mathlib.Omega.{arith}
use native.Mathlib.Nat.{div_self, div-eq_of_lt, mul-div_cancel_left, mul-mod_left, pow-suc, zero-div, div-one, mul_comm}
use native.Mathlib.Nat.{div-div-eq-div-mul}
use native.Mathlib.Decide.{dec_lt, ℕ_discrete}
use borrow.Author.Tests.{eqb-true, eq-eqb, ne_eqb}
use lib.Bits.{bit_or, or_shr, or_mod}
use lib.Dec.{eqb}
use lib.ListN.{length, get_or, set}
use lib.Pow.{pow_pos, pow-lt, pow-add}
use lib.Seq.{get_or-set_same, get_or-set_other}
use Rattle.sets.specs.Word.{bit, word, digits, digit, dig}
use Rattle.sets.proofs.Digits.{never}
use Rattle.sets.proofs.Word.{bit_word}

pub digit_zero : (k : ℕ) → digit 0 k ≡ false
unfolding digit
digit_zero k = ap (λ (n : ℕ). eqb (n % 2) 1) (zero-div (2 ^ k))

-- ---- the digit k alone

power_other : (b k : ℕ) → (b ≡ k → ⊥) → 2 ^ b / 2 ^ k % 2 ≡ 0
power_other b k n = go (dec_lt b k)
  where
    go : Dec (b < k) → 2 ^ b / 2 ^ k % 2 ≡ 0
    go (yes h) = rw (div-eq_of_lt (pow-lt h))
    go (no h) =
        let e : b ≡ k + suc (b - k - 1) = omega arith in
        ap (λ (j : ℕ). 2 ^ j / 2 ^ k % 2) e ∙ ap (λ (j : ℕ). j / 2 ^ k % 2) (pow-add 2 k (suc (b - k - 1)))
        ∙ ap (λ (j : ℕ). j % 2) (mul-div_cancel_left (2 ^ suc (b - k - 1)) (pow_pos k) ∙ pow-suc 2 (b - k - 1))
        ∙ mul-mod_left (2 ^ (b - k - 1)) 2

pub digit_power : (b k : ℕ) → digit (2 ^ b) k ≡ eqb k b
unfolding digit
digit_power b k = go (ℕ_discrete k b)
  where
    go : Dec (k ≡ b) → eqb (2 ^ b / 2 ^ k % 2) 1 ≡ eqb k b
    go (yes e) = ap (λ (j : ℕ). eqb (2 ^ b / 2 ^ j % 2) 1) e ∙ ap (λ (j : ℕ). eqb (j % 2) 1) (div_self (pow_pos b)) ∙ sym (eq-eqb k b e)
    go (no n) = ap (λ (j : ℕ). eqb j 1) (power_other b k (λ e. n (sym e))) ∙ sym (ne_eqb k b n)

-- ---- of two words, in either

parity : (m : ℕ) → (m % 2 ≡ 0) ⊎ (m % 2 ≡ 1)
parity m = go (ℕ_discrete (m % 2) 0)
  where
    go : Dec (m % 2 ≡ 0) → (m % 2 ≡ 0) ⊎ (m % 2 ≡ 1)
    go (yes e) = inl e
    go (no n) = inr (omega arith)

or_parity : (x y : ℕ) → (x ≡ 0) ⊎ (x ≡ 1) → (y ≡ 0) ⊎ (y ≡ 1) → eqb (bit_or x y) 1 ≡ eqb x 1 || eqb y 1
or_parity x y p q = ⊎_elim (λ e. ⊎_elim (λ f. at e f refl) (λ f. at e f refl) q) (λ e. ⊎_elim (λ f. at e f refl) (λ f. at e f refl) q) p
  where
    at : {a b : ℕ} → x ≡ a → y ≡ b → eqb (bit_or a b) 1 ≡ eqb a 1 || eqb b 1 → eqb (bit_or x y) 1 ≡ eqb x 1 || eqb y 1
    at e f h = (λ i. eqb (bit_or (e i) (f i)) 1) ∙ h ∙ (λ i. eqb (sym e i) 1 || eqb (sym f i) 1)

pub digit_or : (a b k : ℕ) → digit (bit_or a b) k ≡ digit a k || digit b k
unfolding digit
digit_or a b k =
    ap (λ (j : ℕ). eqb j 1) (ap (λ (j : ℕ). j % 2) (or_shr a b k) ∙ or_mod (a / 2 ^ k) (b / 2 ^ k) 1)
    ∙ or_parity (a / 2 ^ k % 2) (b / 2 ^ k % 2) (parity (a / 2 ^ k)) (parity (b / 2 ^ k))

-- ---- a word is known by its digits

digit_half : (m k : ℕ) → digit (m / 2) k ≡ digit m (suc k)
unfolding digit
digit_half m k =
    ap (λ (j : ℕ). eqb (j % 2) 1) (div-div-eq-div-mul m 2 (2 ^ k) ∙ ap (λ (j : ℕ). m / j) (mul_comm 2 (2 ^ k) ∙ sym (pow-suc 2 k)))

digit_low : (m : ℕ) → digit m 0 ≡ eqb (m % 2) 1
unfolding digit
digit_low m = ap (λ (j : ℕ). eqb (j % 2) 1) (div-one m)

eqb_bit : (b : Bool) → eqb (bit b) 1 ≡ b
eqb_bit true = refl
eqb_bit false = refl

pub digit-word : (a : List Bool) (k : ℕ) → digit (word a) k ≡ dig a k
unfolding digit
digit-word a k = ap (λ (j : ℕ). eqb j 1) (bit_word a k) ∙ eqb_bit (dig a k)

pub digit-bits : (n m k : ℕ) → k < n → dig (digits n m) k ≡ digit m k
unfolding digits
digit-bits zero m k h = absurd (omega arith)
digit-bits (suc n) m zero h = sym (digit_low m)
digit-bits (suc n) m (suc k) h = digit-bits n (m / 2) k (omega arith) ∙ digit_half m k

-- a number's last digit, from what is said of it
last_digit : (m : ℕ) (b : Bool) → eqb (m % 2) 1 ≡ b → m % 2 ≡ bit b
last_digit m true e = eqb-true (m % 2) 1 e
last_digit m false e = ⊎_elim (λ z. z) (λ o. never (sym (eq-eqb (m % 2) 1 o) ∙ e)) (parity m)

no_digits : (n m : ℕ) → m ≤ n → ((k : ℕ) → digit m k ≡ false) → m ≡ 0
no_digits zero m h e = omega arith
no_digits (suc n) m h e =
    let low : m % 2 ≡ 0 = last_digit m false (sym (digit_low m) ∙ e 0) in
    let rest : m / 2 ≡ 0 = no_digits n (m / 2) (omega arith) (λ k. digit_half m k ∙ e (suc k)) in
    omega arith

pub by_digits : (m : ℕ) (a : List Bool) → ((k : ℕ) → digit m k ≡ dig a k) → m ≡ word a
unfolding word
by_digits m [] e = no_digits m m (omega arith) e
by_digits m (x ∷ xs) e =
    let low : m % 2 ≡ bit x = last_digit m x (sym (digit_low m) ∙ e 0) in
    let rest : m / 2 ≡ word xs = by_digits (m / 2) xs (λ k. digit_half m k ∙ e (suc k)) in
    omega arith

-- and a list of digits has one word
pub same_word : (a b : List Bool) → ((k : ℕ) → dig a k ≡ dig b k) → word a ≡ word b
same_word a b e = by_digits (word a) b (λ k. digit-word a k ∙ e k)

pub none-digits : (m : ℕ) → ((k : ℕ) → digit m k ≡ false) → m ≡ 0
none-digits m e = no_digits m m (omega arith) e

-- ---- a store `l[a] = l[a] | m`

pub digit-stored : (l : List ℕ) (a m u w : ℕ) → a < length l
    → digit (get_or (set l a (bit_or (get_or l a 0) m)) u 0) w ≡ digit (get_or l u 0) w || eqb u a && digit m w
digit-stored l a m u w h = go (ℕ_discrete u a)
  where
    go : Dec (u ≡ a) → digit (get_or (set l a (bit_or (get_or l a 0) m)) u 0) w ≡ digit (get_or l u 0) w || eqb u a && digit m w
    go (yes e) =
        ap (λ (j : ℕ). digit (get_or (set l a (bit_or (get_or l a 0) m)) j 0) w) e
        ∙ ap (λ (j : ℕ). digit j w) (get_or-set_same l a (bit_or (get_or l a 0) m) 0 h) ∙ digit_or (get_or l a 0) m w
        ∙ (λ i. digit (get_or l (sym e i) 0) w || sym (eq-eqb u a e) i && digit m w)
    go (no n) =
        ap (λ (j : ℕ). digit j w) (get_or-set_other l a u (bit_or (get_or l a 0) m) 0 n) ∙ sym (or-false (digit (get_or l u 0) w))
        ∙ ap (λ (b : Bool). digit (get_or l u 0) w || b && digit m w) (sym (ne_eqb u a n))

-- Words and their digits: each operation on words is one on lists of digits, of every length.
-- A width is named only where `!x`, `1 << k` or a count of zeros has one.
use mathlib.Core.Bool.{Bool, true, false, not, ◌&&◌, ◌||◌}
use mathlib.Core.List.{List, [], ◌∷◌, ◌++◌}
use mathlib.Core.Path.{◌≡◌, refl, sym, ap, ap₂, ◌∙◌}
use Prim.Native.Nat.{ℕ, zero, suc, ◌+◌, ◌-◌, ◌*◌, ◌/◌, ◌%◌, ◌^◌, ◌≤◌, ◌<◌, min, max}
use native.Mathlib.Nat.{pow-suc, mod-eq_of_lt, le_of_suc-le-suc, le_trans, zero-div, div-one, mul_comm, one-mul, div-div-eq-div-mul}
use native.Mathlib.Omega.{arith}
use lib.ListN.{length, replicate}
use lib.Arith.{digits_div, digits_mod}
use lib.Bits.{bit_and, bit_or, and_step, or_step, and_zero_r, or_zero_r, and_self, and_mask}
use lib.Bits.{bit_xor, differ, xor_step, xor_zero_l, xor_zero_r}
use lib.Dec.{eqb}
use lib.Count.{ones, ones_in, ones_step, count_trailing_zeros, under}
use lib.Pow.{pow_pos, pow_mono, pow-lt}
use Rattle.sets.specs.Word.{bit, word, digits, dig, count, first, both, either, less, only}
use Rattle.sets.proofs.Digits.{less_nil}

bit_lt : (b : Bool) → bit b < 2
bit_lt true = omega arith
bit_lt false = omega arith

-- ---- two words whose lowest digits are split off

module _ (p q : ℕ) {x y : ℕ} (hx : x < 2) (hy : y < 2) where
  and_digits : bit_and (p * 2 + x) (q * 2 + y) ≡ bit_and p q * 2 + min x y
  and_digits =
      and_step (p * 2 + x) (q * 2 + y) ∙ ap₂ (λ (u v : ℕ). u * 2 + v) (ap₂ bit_and (digits_div p hx) (digits_div q hy))
      (ap₂ min (digits_mod p hx) (digits_mod q hy))

  or_digits : bit_or (p * 2 + x) (q * 2 + y) ≡ bit_or p q * 2 + max x y
  or_digits =
      or_step (p * 2 + x) (q * 2 + y) ∙ ap₂ (λ (u v : ℕ). u * 2 + v) (ap₂ bit_or (digits_div p hx) (digits_div q hy))
      (ap₂ max (digits_mod p hx) (digits_mod q hy))

ones-digits : (p : ℕ) {x : ℕ} → x < 2 → ones (p * 2 + x) ≡ x + ones p
ones-digits p hx = ones_step _ ∙ ap₂ (λ (u v : ℕ). u + ones v) (digits_mod p hx) (digits_div p hx)

join : {p q x y : ℕ} → p ≡ q → x ≡ y → p * 2 + x ≡ q * 2 + y
join e d = ap₂ (λ (u v : ℕ). u * 2 + v) e d

min_bit : (x y : Bool) → min (bit x) (bit y) ≡ bit (x && y)
min_bit true true = refl
min_bit true false = refl
min_bit false true = refl
min_bit false false = refl

max_bit : (x y : Bool) → max (bit x) (bit y) ≡ bit (x || y)
max_bit true true = refl
max_bit true false = refl
max_bit false true = refl
max_bit false false = refl

not_bit : (y : Bool) → 1 - bit y ≡ bit (not y)
not_bit true = refl
not_bit false = refl

-- ---- the operations

word_lt : (bs : List Bool) → word bs < 2 ^ length bs
unfolding word
word_lt [] = omega arith
word_lt (b ∷ bs) = omega (arith, word_lt bs, bit_lt b, pow-suc 2 (length bs))

word_fits : (k : ℕ) (bs : List Bool) → length bs ≤ k → word bs < 2 ^ k
word_fits k bs h = le_trans (word_lt bs) (pow_mono h)

pub and_word : (a b : List Bool) → bit_and (word a) (word b) ≡ word (both a b)
unfolding word both
and_word [] b = refl
and_word (x ∷ xs) [] = and_zero_r (word xs * 2 + bit x)
and_word (x ∷ xs) (y ∷ ys) = and_digits (word xs) (word ys) (bit_lt x) (bit_lt y) ∙ join (and_word xs ys) (min_bit x y)

pub or_word : (a b : List Bool) → bit_or (word a) (word b) ≡ word (either a b)
unfolding word either
or_word [] b = refl
or_word (x ∷ xs) [] = or_zero_r (word xs * 2 + bit x)
or_word (x ∷ xs) (y ∷ ys) = or_digits (word xs) (word ys) (bit_lt x) (bit_lt y) ∙ join (or_word xs ys) (max_bit x y)

xor_digits : (p q : ℕ) {x y : ℕ} → x < 2 → y < 2 → bit_xor (p * 2 + x) (q * 2 + y) ≡ bit_xor p q * 2 + differ x y
xor_digits p q {x} {y} hx hy =
    xor_step (p * 2 + x) (q * 2 + y)
    ∙ join (ap₂ bit_xor (digits_div p hx) (digits_div q hy)) (ap₂ differ (digits_mod p hx) (digits_mod q hy))

pub unlike-word : (a b : List Bool) → bit_xor (word a) (word b) ≡ word (either (less a b) (less b a))
unfolding word either less
unlike-word [] [] = refl
unlike-word [] (y ∷ b) = xor_zero_l (word (y ∷ b))
unlike-word (x ∷ a) [] = xor_zero_r (word (x ∷ a))
unlike-word (true ∷ a) (true ∷ b) = xor_digits (word a) (word b) (bit_lt true) (bit_lt true) ∙ join (unlike-word a b) refl
unlike-word (true ∷ a) (false ∷ b) = xor_digits (word a) (word b) (bit_lt true) (bit_lt false) ∙ join (unlike-word a b) refl
unlike-word (false ∷ a) (true ∷ b) = xor_digits (word a) (word b) (bit_lt false) (bit_lt true) ∙ join (unlike-word a b) refl
unlike-word (false ∷ a) (false ∷ b) = xor_digits (word a) (word b) (bit_lt false) (bit_lt false) ∙ join (unlike-word a b) refl

-- `!x` of a word of k + 1 digits, its lowest split off
not_digits : (k p x : ℕ) → p < 2 ^ k → x < 2 → (2 ^ suc k - 1) - (p * 2 + x) ≡ ((2 ^ k - 1) - p) * 2 + (1 - x)
not_digits k p x hp hx = omega (arith, pow-suc 2 k)

-- `a & !b` at a width k that holds both
pub less-word : (k : ℕ) (a b : List Bool) → length a ≤ k → length b ≤ k → bit_and (word a) ((2 ^ k - 1) - word b) ≡ word (less a b)
unfolding word less
less-word k [] b ha hb = refl
less-word k (x ∷ xs) [] ha hb =
    ap (bit_and (word (x ∷ xs))) (omega arith) ∙ and_mask (word (x ∷ xs)) k ∙ mod-eq_of_lt (word_fits k (x ∷ xs) ha)
less-word zero (x ∷ xs) (y ∷ ys) ha hb = absurd (omega arith)
less-word (suc k) (x ∷ xs) (y ∷ ys) ha hb =
    let hy : word ys < 2 ^ k = word_fits k ys (le_of_suc-le-suc hb) in
    ap (bit_and (word xs * 2 + bit x)) (not_digits k (word ys) (bit y) hy (bit_lt y)
    ∙ ap (λ (v : ℕ). ((2 ^ k - 1) - word ys) * 2 + v) (not_bit y))
    ∙ and_digits (word xs) ((2 ^ k - 1) - word ys) (bit_lt x) (bit_lt (not y))
    ∙ join (less-word k xs ys (le_of_suc-le-suc ha) (le_of_suc-le-suc hb)) (min_bit x (not y))

pub ones-word : (a : List Bool) → ones (word a) ≡ count a
unfolding word count ones ones_in
ones-word [] = refl
ones-word (x ∷ xs) = ones-digits (word xs) (bit_lt x) ∙ ap (λ (v : ℕ). bit x + v) (ones-word xs)

pub only-word : (k : ℕ) → word (only k) ≡ 2 ^ k
unfolding word only
only-word zero = refl
only-word (suc k) = omega (arith, only-word k, pow-suc 2 k)

-- `1 << k` at a width w
pub one_shl : (w k : ℕ) → k < w → (1 * 2 ^ k) % 2 ^ w ≡ 2 ^ k
one_shl w k h = ap (λ (x : ℕ). x % 2 ^ w) (one-mul (2 ^ k)) ∙ mod-eq_of_lt (pow-lt h)

-- one digit of a word, w / 2 ^ k % 2
pub bit_word : (a : List Bool) (k : ℕ) → word a / 2 ^ k % 2 ≡ bit (dig a k)
unfolding word
bit_word [] k = ap (λ (v : ℕ). v % 2) (zero-div (2 ^ k))
bit_word (x ∷ xs) zero = ap (λ (v : ℕ). v % 2) (div-one (word xs * 2 + bit x)) ∙ digits_mod (word xs) (bit_lt x)
bit_word (x ∷ xs) (suc k) =
    ap (λ (v : ℕ). (word xs * 2 + bit x) / v % 2) (pow-suc 2 k ∙ mul_comm (2 ^ k) 2)
    ∙ ap (λ (v : ℕ). v % 2) (sym (div-div-eq-div-mul (word xs * 2 + bit x) 2 (2 ^ k)))
    ∙ ap (λ (v : ℕ). v / 2 ^ k % 2) (digits_div (word xs) (bit_lt x))
    ∙ bit_word xs k

pub trailing_word : (k : ℕ) (a : List Bool) → length a ≤ k → 0 < word a → count_trailing_zeros k (word a) ≡ first a
unfolding word first count_trailing_zeros
trailing_word k [] h p = absurd (omega arith)
trailing_word zero (x ∷ xs) h p = absurd (omega arith)
trailing_word (suc k) (true ∷ xs) h p =
    ap (λ (d : ℕ). under d (count_trailing_zeros k ((word xs * 2 + 1) / 2))) (digits_mod (word xs) (bit_lt true))
trailing_word (suc k) (false ∷ xs) h p =
    ap (λ (d : ℕ). under d (count_trailing_zeros k ((word xs * 2 + 0) / 2))) (digits_mod (word xs) (bit_lt false))
    ∙ ap (λ (v : ℕ). suc (count_trailing_zeros k v)) (digits_div (word xs) (bit_lt false))
    ∙ ap suc (trailing_word k xs (le_of_suc-le-suc h) (omega arith))

-- `a & (a - 1)`
pub rest_word : (a : List Bool) → 0 < word a → bit_and (word a) (word a - 1) ≡ word (less a (only (first a)))
unfolding word less only first
rest_word [] p = absurd (omega arith)
rest_word (true ∷ xs) p =
    let e : word xs * 2 + 1 - 1 ≡ word xs * 2 + 0 = omega arith in
    ap (bit_and (word xs * 2 + 1)) e ∙ and_digits (word xs) (word xs) (bit_lt true) (bit_lt false)
    ∙ ap (λ (w : ℕ). w * 2 + 0) (and_self (word xs) ∙ ap word (sym (less_nil xs)))
rest_word (false ∷ xs) p =
    let e : word xs * 2 + 0 - 1 ≡ (word xs - 1) * 2 + 1 = omega arith in
    ap (bit_and (word xs * 2 + 0)) e ∙ and_digits (word xs) (word xs - 1) (bit_lt false) (bit_lt true)
    ∙ ap (λ (w : ℕ). w * 2 + 0) (rest_word xs (omega arith))

-- ---- every word below 2 ^ n is that of a list of n digits

bit-odd : (x : ℕ) → x < 2 → bit (eqb x 1) ≡ x
bit-odd zero h = refl
bit-odd (suc zero) h = refl
bit-odd (suc (suc x)) h = absurd (omega arith)

pub length_digits : (n w : ℕ) → length (digits n w) ≡ n
unfolding digits
length_digits zero w = refl
length_digits (suc n) w = ap suc (length_digits n (w / 2))

pub word-digits : (n w : ℕ) → w < 2 ^ n → word (digits n w) ≡ w
unfolding digits word
word-digits zero w h = omega arith
word-digits (suc n) w h =
    let lt : w / 2 < 2 ^ n = omega (arith, pow-suc 2 n) in
    let odd : w % 2 < 2 = omega arith in
    omega (arith, word-digits n (w / 2) lt, bit-odd (w % 2) odd)

-- ---- all digits set, none set, and one more at the top that is not set

pub full_word : (n : ℕ) → word (replicate n true) ≡ 2 ^ n - 1
unfolding word
full_word zero = refl
full_word (suc n) = omega (arith, full_word n, pow-suc 2 n, pow_pos n)

pub none-word : (n : ℕ) → word (replicate n false) ≡ 0
unfolding word
none-word zero = refl
none-word (suc n) = omega (arith, none-word n)

pub word_more : (a : List Bool) → word (a ++ (false ∷ [])) ≡ word a
unfolding word
word_more [] = refl
word_more (x ∷ a) = ap (λ (w : ℕ). w * 2 + bit x) (word_more a)

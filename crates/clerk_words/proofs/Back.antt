-- What is read back is what was put: a word from its bytes, and a number from its word.
use mathlib.Core.Bool.{Bool, cond}
use mathlib.Core.Path.{◌≡◌, ap, ◌∙◌}
use Prim.Native.Nat.{ℕ, suc, ◌+◌, ◌-◌, ◌*◌, ◌/◌, ◌%◌, ◌^◌, ◌<◌}
use native.Mathlib.Nat.{div-one, div-add-mod', div-div-eq-div-mul, div-eq_of_lt, mul_assoc}
use native.Mathlib.Omega.{arith}
use borrow.Author.Tests.{lt-ltb, le-ltb}
use lib.IntN.{ℤ, pos, negsuc}
use mir.Syntax.{w64}
use mir.Val.{SFits}
use Rattle.clerk_words.specs.Words.{bytes_of, word_bytes, word_of, word_at, number_of}

-- a quotient is its own last byte, and 256 times the next
next : (n p : ℕ) → n / p ≡ 256 * (n / (p * 256)) + n / p % 256
next n p =
    let e = div-div-eq-div-mul n p 256 in
    omega (arith, div-add-mod' (n / p) 256, e)

-- two of them, four, and eight
two : (n p : ℕ) → n / p ≡ 65536 * (n / (p * 65536)) + (256 * (n / (p * 256) % 256) + n / p % 256)
two n p =
    join (n / p) (n / (p * 256)) (n / (p * 65536)) (n / p % 256) (n / (p * 256) % 256) (next n p)
    (next n (p * 256) ∙ ap (λ (q : ℕ). 256 * (n / q) + n / (p * 256) % 256) (mul_assoc p 256 256))
  where
    join : (q r s x y : ℕ) → q ≡ 256 * r + x → r ≡ 256 * s + y → q ≡ 65536 * s + (256 * y + x)
    join q r s x y e f = omega arith

halves : (q r s x y : ℕ) → q ≡ 65536 * r + x → r ≡ 65536 * s + y → q ≡ 4294967296 * s + (65536 * y + x)
halves q r s x y e f = omega arith

whole : (q r s x y : ℕ) → q ≡ 4294967296 * r + x → r ≡ 4294967296 * s + y → s ≡ 0 → 4294967296 * y + x ≡ q
whole q r s x y e f z = omega arith

pub word_back : (n : ℕ) → n < 2 ^ 64 → word_at (word_bytes n) 0 ≡ n
unfolding bytes_of word_at
word_back n h =
    let low = halves (n / 1) (n / 65536) (n / 4294967296) _ _ (two n 1) (two n 65536) in
    let high = halves (n / 4294967296) (n / 281474976710656) (n / 18446744073709551616) _ _ (two n 4294967296) (two n 281474976710656) in
    whole (n / 1) (n / 4294967296) (n / 18446744073709551616) _ _ low high (div-eq_of_lt h) ∙ div-one n

pub number_back : (z : ℤ) → SFits w64 z → number_of (word_of z) ≡ z
number_back (pos n) f = ap (λ (b : Bool). cond b (pos n) (negsuc (2 ^ 64 - suc n))) (lt-ltb n (2 ^ 63) f.sfits)
number_back (negsuc n) f =
    let e : 2 ^ 64 - suc (2 ^ 64 - suc n) ≡ n = omega (arith, f.sfits) in
    ap (λ (b : Bool). cond b (pos (2 ^ 64 - suc n)) (negsuc (2 ^ 64 - suc (2 ^ 64 - suc n))))
    (le-ltb (2 ^ 64 - suc n) (2 ^ 63) (omega (arith, f.sfits)))
    ∙ ap negsuc e

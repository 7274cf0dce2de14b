-- Sets of those numbers below n that pass a test, one number after the other.
use mathlib.Core.Bool.{Bool, true, false, ◌&&◌, ◌||◌, and-false, or-false}
use mathlib.Core.Path.{◌≡◌, refl, sym, ap, ◌∙◌}
use mathlib.Core.List.{List, [], map}
use Prim.Native.Nat.{ℕ, zero, suc, ◌+◌, ◌≤◌, ◌<◌}
use native.Mathlib.Decide.{ℕ_discrete}
use native.Mathlib.Omega.{arith}
use borrow.Author.Tests.{eq-eqb, ne_eqb, lt-ltb, le-ltb, ltb-true, ltb-false}
use lib.Dec.{eqb, ltb}
use lib.IntN.{ℤ, pos, negsuc}
use lib.ListN.{length}
use Rattle.lists.specs.Lists.{upto}
use Rattle.lists.proofs.Truth.{never_true}
use Rattle.lists.proofs.Places.{made_at, made_length}
use Rattle.sets.specs.Word.{word, dig, either, only}
use Rattle.sets.specs.Sets.{room, Is, packed_set}
use Rattle.sets.specs.declared.Set.{Set}
use Rattle.sets.proofs.Digits.{never, dig-either}
use Rattle.sets.proofs.Ones.{dig_lt, only_is}
use Rattle.sets.proofs.Numbers.{digit-word, by_digits}
use Rattle.paper.specs.Points.{is_zero, above, below}
use Rattle.walk_clashes.specs.Sorted.{Upto}

-- a set with the same digits
pub is_same : {x : Set} {a : List Bool} (b : List Bool) → Is x a → length b ≤ room → ((u : ℕ) → dig a u ≡ dig b u) → Is x b
unfolding packed_set
is_same {x} {a} b i n e =
    let w : word a ≡ word b = by_digits (word a) b (λ u. digit-word a u ∙ e u) in
    record { short = n; words = i.words ∙ (λ t. record { word = w t }) }

-- a digit of a mask of the numbers below n
pub dig-made : (test : ℕ → Bool) (n u : ℕ) → dig (map test (upto n)) u ≡ (ltb u n && test u)
dig-made test n u = go (ltb u n) refl
  where
    go : (b : Bool) → ltb u n ≡ b → dig (map test (upto n)) u ≡ (ltb u n && test u)
    go true p = made_at test n u false (ltb-true u n p) ∙ sym (ap (λ (b : Bool). b && test u) p)
    go false p =
        never_true (dig (map test (upto n)) u)
        (λ t. let h = dig_lt (map test (upto n)) u t in omega (arith, h, made_length test n, ltb-false u n p))
        ∙ sym (ap (λ (b : Bool). b && test u) p)

module _ (test : ℕ → Bool) where
  pub upto-none : {x : Set} → Is x [] → Upto test 0 x
  upto-none i = record { digits = []; is = i; each = λ u. sym (ap (λ (b : Bool). b && test u) (le-ltb u 0 (omega arith))) }

  -- v too, or not
  module _ (v : ℕ) where
    next : (u : ℕ) → (u ≡ v → ⊥) → ltb u v ≡ ltb u (v + 1)
    next u q = go (ltb u v) refl
      where
        past : v ≤ u → v + 1 ≤ u
        past n = omega (arith, q)

        go : (b : Bool) → ltb u v ≡ b → ltb u v ≡ ltb u (v + 1)
        go true p = p ∙ sym (lt-ltb u (v + 1) (omega (arith, ltb-true u v p)))
        go false p = p ∙ sym (le-ltb u (v + 1) (past (ltb-false u v p)))

    pub upto_with : {x y : Set} → test v ≡ true → ((a : List Bool) → Is x a → Is y (either a (only v))) → Upto test v x → Upto test (v + 1) y
    upto_with t w k =
        record { digits = either k.digits (only v); is = w k.digits k.is; each = λ u. split u ∙ go u (ℕ_discrete u v) }
      where
        split : (u : ℕ) → dig (either k.digits (only v)) u ≡ ((ltb u v && test u) || eqb u v)
        split u = dig-either k.digits (only v) u ∙ (λ i. k.each u i || only_is v u i)

        go : (u : ℕ) → Dec (u ≡ v) → ((ltb u v && test u) || eqb u v) ≡ (ltb u (v + 1) && test u)
        go u (yes q) =
            (λ i. (le-ltb u v (omega arith) i && test u) || eq-eqb u v q i)
            ∙ sym (λ i. lt-ltb u (v + 1) (omega arith) i && (ap test q ∙ t) i)
        go u (no q) =
            ap (λ (b : Bool). (ltb u v && test u) || b) (ne_eqb u v q) ∙ or-false (ltb u v && test u)
            ∙ ap (λ (b : Bool). b && test u) (next u q)

    pub upto-same : {x : Set} → test v ≡ false → Upto test v x → Upto test (v + 1) x
    upto-same t k = record { digits = k.digits; is = k.is; each = λ u. k.each u ∙ go u (ℕ_discrete u v) }
      where
        go : (u : ℕ) → Dec (u ≡ v) → (ltb u v && test u) ≡ (ltb u (v + 1) && test u)
        go u (yes q) =
            ap (λ (b : Bool). ltb u v && b) (ap test q ∙ t) ∙ and-false (ltb u v)
            ∙ sym (ap (λ (b : Bool). ltb u (v + 1) && b) (ap test q ∙ t) ∙ and-false (ltb u (v + 1)))
        go u (no q) = ap (λ (b : Bool). b && test u) (next u q)

  -- all
  pub upto_all : {x : Set} (n : ℕ) → n ≤ room → Upto test n x → Is x (map test (upto n))
  upto_all n few k =
      is_same (map test (upto n)) k.is (omega (arith, made_length test n)) (λ u. k.each u ∙ sym (dig-made test n u))

  -- none of the first n passes
  pub upto-fail : {x : Set} (n : ℕ) → ((u : ℕ) → u < n → test u ≡ false) → Is x [] → Upto test n x
  upto-fail n f i = record { digits = []; is = i; each = λ u. sym (go u (ltb u n) refl) }
    where
      go : (u : ℕ) (b : Bool) → ltb u n ≡ b → (ltb u n && test u) ≡ false
      go u true p = (λ t. p t && f u (ltb-true u n p) t)
      go u false p = ap (λ (b : Bool). b && test u) p

-- ---- a number is above zero, below it or zero
pub above_not_below : (z : ℤ) → above z ≡ true → below z ≡ false
unfolding above below
above_not_below (pos n) t = le-ltb n 0 (omega arith)
above_not_below (negsuc n) t = never (sym t)

pub above_not_zero : (z : ℤ) → above z ≡ true → is_zero z ≡ false
unfolding above is_zero
above_not_zero (pos zero) t = never (sym t ∙ le-ltb 0 0 (omega arith))
above_not_zero (pos (suc n)) t = refl
above_not_zero (negsuc n) t = refl

pub below_not_zero : (z : ℤ) → below z ≡ true → is_zero z ≡ false
unfolding below is_zero
below_not_zero (pos zero) t = never (sym t ∙ le-ltb 0 0 (omega arith))
below_not_zero (pos (suc n)) t = refl
below_not_zero (negsuc n) t = refl

pub neither_zero : (z : ℤ) → above z ≡ false → below z ≡ false → is_zero z ≡ true
unfolding above below is_zero
neither_zero (pos zero) t u = refl
neither_zero (pos (suc n)) t u = never (sym (lt-ltb 0 (suc n) (omega arith)) ∙ t)
neither_zero (negsuc n) t u = never u

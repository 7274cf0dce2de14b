-- Lists of digits by their digits: what the operations do to each, and what counts say of them.
use mathlib.Core.Bool.{Bool, true, false, not, ◌&&◌, ◌||◌, true≢false, and-false, and-true, or-false}
use mathlib.Core.List.{List, [], ◌∷◌}
use mathlib.Core.Path.{◌≡◌, refl, sym, ap, ◌∙◌}
use Prim.Native.Nat.{ℕ, zero, suc, ◌≤◌, ◌<◌, ◌+◌}
use native.Mathlib.Omega.{arith}
use lib.ListN.{length}
use Rattle.sets.specs.Word.{bit, dig, Sub, count, first, both, either, less, only}

pub never : {A : Type 0} → true ≡ false → A
never e = absurd (true≢false e)

-- ---- lengths

pub length_both : (a b : List Bool) → length (both a b) ≤ length a
unfolding both
length_both [] b = omega arith
length_both (x ∷ xs) [] = omega arith
length_both (x ∷ xs) (y ∷ ys) = omega (arith, length_both xs ys)

pub length_both_last : (a b : List Bool) → length (both a b) ≤ length b
unfolding both
length_both_last [] b = omega arith
length_both_last (x ∷ a) [] = omega arith
length_both_last (x ∷ a) (y ∷ b) = omega (arith, length_both_last a b)

pub length_either : (n : ℕ) (a b : List Bool) → length a ≤ n → length b ≤ n → length (either a b) ≤ n
unfolding either
length_either n [] b h k = k
length_either n (x ∷ xs) [] h k = h
length_either zero (x ∷ xs) (y ∷ ys) h k = absurd (omega arith)
length_either (suc n) (x ∷ xs) (y ∷ ys) h k = omega (arith, length_either n xs ys (omega arith) (omega arith))

pub length_less : (a b : List Bool) → length (less a b) ≡ length a
unfolding less
length_less [] b = refl
length_less (x ∷ xs) [] = refl
length_less (x ∷ xs) (y ∷ ys) = ap suc (length_less xs ys)

pub length_only : (k : ℕ) → length (only k) ≡ suc k
unfolding only
length_only zero = refl
length_only (suc k) = ap suc (length_only k)

-- ---- one digit of what an operation makes

pub dig-both : (a b : List Bool) (k : ℕ) → dig (both a b) k ≡ dig a k && dig b k
unfolding both
dig-both [] b k = refl
dig-both (x ∷ a) [] k = sym (and-false (dig (x ∷ a) k))
dig-both (x ∷ a) (y ∷ b) zero = refl
dig-both (x ∷ a) (y ∷ b) (suc k) = dig-both a b k

pub dig-either : (a b : List Bool) (k : ℕ) → dig (either a b) k ≡ dig a k || dig b k
unfolding either
dig-either [] b k = refl
dig-either (x ∷ a) [] k = sym (or-false (dig (x ∷ a) k))
dig-either (x ∷ a) (y ∷ b) zero = refl
dig-either (x ∷ a) (y ∷ b) (suc k) = dig-either a b k

pub dig-less : (a b : List Bool) (k : ℕ) → dig (less a b) k ≡ dig a k && not (dig b k)
unfolding less
dig-less [] b k = refl
dig-less (x ∷ a) [] k = sym (and-true (dig (x ∷ a) k))
dig-less (x ∷ a) (y ∷ b) zero = refl
dig-less (x ∷ a) (y ∷ b) (suc k) = dig-less a b k

pub dig-only : (j k : ℕ) → dig (only j) k ≡ true → k ≡ j
unfolding only
dig-only zero zero e = refl
dig-only zero (suc k) e = never (sym e)
dig-only (suc j) zero e = never (sym e)
dig-only (suc j) (suc k) e = ap suc (dig-only j k e)

pub dig_self : (j : ℕ) → dig (only j) j ≡ true
unfolding only
dig_self zero = refl
dig_self (suc j) = dig_self j

-- ---- counts of what is in one and in the other

bit_le : (x y : Bool) → (x ≡ true → y ≡ true) → bit x ≤ bit y
bit_le true y h = rw (h refl) (omega arith)
bit_le false y h = omega arith

pub count-le : (a b : List Bool) → Sub a b → count a ≤ count b
unfolding count
count-le [] b s = omega arith
count-le (true ∷ a) [] s = never (sym (s 0 refl))
count-le (false ∷ a) [] s = omega (arith, count-le a [] (λ k. s (suc k)))
count-le (x ∷ a) (y ∷ b) s = omega (arith, count-le a b (λ k. s (suc k)), bit_le x y (s 0))

-- as many: then also the other way round
pub count_back : (a b : List Bool) → Sub a b → count b ≤ count a → Sub b a
unfolding count
count_back a [] s h k e = never (sym e)
count_back [] (true ∷ b) s h k e = absurd (omega arith)
count_back [] (false ∷ b) s h zero e = never (sym e)
count_back [] (false ∷ b) s h (suc k) e = count_back [] b (λ j f. never (sym f)) (omega arith) k e
count_back (true ∷ a) (y ∷ b) s h zero e = refl
count_back (false ∷ a) (false ∷ b) s h zero e = e
count_back (false ∷ a) (true ∷ b) s h zero e = absurd (omega (arith, count-le a b (λ j. s (suc j))))
count_back (x ∷ a) (y ∷ b) s h (suc k) e = count_back a b (λ j. s (suc j)) (omega (arith, bit_le x y (s 0))) k e

pub count_same : (a b : List Bool) → ((k : ℕ) → dig a k ≡ dig b k) → count a ≡ count b
count_same a b h = omega (arith, count-le a b (λ k e. sym (h k) ∙ e), count-le b a (λ k e. h k ∙ e))

-- what is in both and what is in the first alone
pub count_split : (a b : List Bool) → count (both a b) + count (less a b) ≡ count a
unfolding count both less
count_split [] b = refl
count_split (x ∷ a) [] = omega arith
count_split (true ∷ a) (true ∷ b) = omega (arith, count_split a b)
count_split (true ∷ a) (false ∷ b) = omega (arith, count_split a b)
count_split (false ∷ a) (y ∷ b) = omega (arith, count_split a b)

pub count_less : (a b : List Bool) → count (less a b) ≤ count a
count_less a b = omega (arith, count_split a b)

pub less_nil : (a : List Bool) → less a [] ≡ a
unfolding less
less_nil [] = refl
less_nil (x ∷ xs) = refl

pub count-only : (a : List Bool) (k : ℕ) → dig a k ≡ true → suc (count (less a (only k))) ≡ count a
unfolding less only count
count-only [] k e = never (sym e)
count-only (true ∷ xs) zero e = omega (arith, ap count (less_nil xs))
count-only (false ∷ xs) zero e = never (sym e)
count-only (true ∷ xs) (suc k) e = omega (arith, count-only xs k e)
count-only (false ∷ xs) (suc k) e = omega (arith, count-only xs k e)

-- ---- none, and one

pub count_none : (a : List Bool) → count a ≡ 0 → (k : ℕ) → dig a k ≡ true → ⊥
unfolding count
count_none [] e k h = never (sym h)
count_none (true ∷ a) e k h = omega arith
count_none (false ∷ a) e zero h = never (sym h)
count_none (false ∷ a) e (suc k) h = count_none a (omega arith) k h

pub count-empty : (a : List Bool) → ((k : ℕ) → dig a k ≡ true → ⊥) → count a ≡ 0
unfolding count
count-empty a h = omega (arith, count-le a [] (λ k e. absurd (h k e)))

-- the only digit
pub count-one : (a : List Bool) → count a ≡ 1 → (j k : ℕ) → dig a j ≡ true → dig a k ≡ true → j ≡ k
unfolding count
count-one [] e j k p q = never (sym p)
count-one (true ∷ a) e zero zero p q = refl
count-one (true ∷ a) e zero (suc k) p q = absurd (count_none a (omega arith) k q)
count-one (true ∷ a) e (suc j) k p q = absurd (count_none a (omega arith) j p)
count-one (false ∷ a) e zero k p q = never (sym p)
count-one (false ∷ a) e (suc j) zero p q = never (sym q)
count-one (false ∷ a) e (suc j) (suc k) p q = ap suc (count-one a (omega arith) j k p q)

-- how many are in b too
pub count_with : (a b : List Bool) (j : ℕ) → count a ≡ 1 → dig a j ≡ true → count (both a b) ≡ bit (dig b j)
unfolding count both
count_with [] b j e h = never (sym h)
count_with (x ∷ a) [] j e h = refl
count_with (true ∷ a) (y ∷ b) zero e h = omega (arith, count_split a b)
count_with (true ∷ a) (y ∷ b) (suc j) e h = absurd (count_none a (omega arith) j h)
count_with (false ∷ a) (y ∷ b) zero e h = never (sym h)
count_with (false ∷ a) (y ∷ b) (suc j) e h = omega (arith, count_with a b j (omega arith) h)

-- ---- the first that is set

pub first-lt : (a : List Bool) → (count a ≡ 0 → ⊥) → first a < length a
unfolding count first
first-lt [] n = absurd (n refl)
first-lt (true ∷ a) n = omega arith
first-lt (false ∷ a) n = omega (arith, first-lt a (λ e. n (omega arith)))

pub first_in : (a : List Bool) → (count a ≡ 0 → ⊥) → dig a (first a) ≡ true
unfolding count first
first_in [] n = absurd (n refl)
first_in (true ∷ a) n = refl
first_in (false ∷ a) n = first_in a (λ e. n (omega arith))

-- ---- what is left without one

not_only : (j k : ℕ) → (k ≡ j → ⊥) → dig (only j) k ≡ false
not_only j k n = go (dig (only j) k) refl
  where
    go : (b : Bool) → dig (only j) k ≡ b → b ≡ false
    go true e = absurd (n (dig-only j k e))
    go false e = refl

pub left_in : (a : List Bool) (j k : ℕ) → dig a k ≡ true → (k ≡ j → ⊥) → dig (less a (only j)) k ≡ true
left_in a j k h n = dig-less a (only j) k ∙ (λ i. h i && not (not_only j k n i))

pub left_out : (a : List Bool) (j k : ℕ) → dig (less a (only j)) k ≡ true → (dig a k ≡ true) × (k ≡ j → ⊥)
left_out a j k h = go (dig a k) (dig (only j) k) refl (sym (dig-less a (only j) k) ∙ h)
  where
    go : (x y : Bool) → dig (only j) k ≡ y → (x && not y) ≡ true → (x ≡ true) × (k ≡ j → ⊥)
    go true false p e = (refl, λ q. never (sym (ap (dig (only j)) q ∙ dig_self j) ∙ p))
    go true true p e = never (sym e)
    go false y p e = never (sym e)

-- a digit alone is one; no more are set than there are
pub count-alone : (j : ℕ) → count (only j) ≡ 1
unfolding count only
count-alone zero = refl
count-alone (suc j) = omega (arith, count-alone j)

pub count_length : (a : List Bool) → count a ≤ length a
unfolding count
count_length [] = omega arith
count_length (true ∷ a) = omega (arith, count_length a)
count_length (false ∷ a) = omega (arith, count_length a)

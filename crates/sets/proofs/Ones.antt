-- Digits that are set: the first of them, one alone, all, none.
use mathlib.Core.Path.{◌≡◌, refl, sym, ap, ◌∙◌}
use mathlib.Core.Bool.{Bool, true, false, true≢false}
use mathlib.Core.List.{List, [], ◌∷◌, ◌++◌}
use Prim.Native.Nat.{ℕ, zero, suc, ◌+◌, ◌≤◌, ◌<◌}
use native.Mathlib.Omega.{arith}
use lib.Dec.{eqb, ltb, eqb-zero-suc, eqb-suc-zero, eqb-suc-suc}
use lib.ListN.{length, replicate, length-replicate, get_or-replicate, get_or-eq_default}
use borrow.Author.Tests.{eq-eqb, lt-ltb, le-ltb}
use native.Mathlib.Decide.{dec_lt}
use Rattle.sets.specs.Word.{dig, count, first, either, only}
use Rattle.sets.proofs.Digits.{never}

-- ---- a digit that is set is not past the end

pub dig_lt : (a : List Bool) (j : ℕ) → dig a j ≡ true → j < length a
dig_lt [] j e = never (sym e)
dig_lt (b ∷ a) zero e = omega arith
dig_lt (b ∷ a) (suc j) e = omega (arith, dig_lt a j e)

-- where there are n digits
pub dig-below : (a : List Bool) {n : ℕ} → length a ≡ n → (j : ℕ) → dig a j ≡ true → j < n
dig-below a long j e = omega (arith, dig_lt a j e)

pub dig-none : (a : List Bool) → count a ≡ 0 → (j : ℕ) → dig a j ≡ false
unfolding count
dig-none [] z j = refl
dig-none (true ∷ a) z j = absurd (omega arith)
dig-none (false ∷ a) z zero = refl
dig-none (false ∷ a) z (suc j) = dig-none a (omega arith) j

-- ---- the first

pub first_low : (a : List Bool) (j : ℕ) → j < first a → dig a j ≡ false
unfolding first
first_low [] j h = refl
first_low (true ∷ a) j h = absurd (omega arith)
first_low (false ∷ a) zero h = refl
first_low (false ∷ a) (suc j) h = first_low a j (omega arith)

pub first_least : (a : List Bool) (k : ℕ) → dig a k ≡ true → first a ≤ k
unfolding first
first_least [] k e = absurd (true≢false (sym e))
first_least (true ∷ a) k e = omega arith
first_least (false ∷ a) zero e = absurd (true≢false (sym e))
first_least (false ∷ a) (suc k) e = omega (arith, first_least a k e)

-- ---- one digit alone; all of the first m; none of them, and others behind

pub only_is : (v j : ℕ) → dig (only v) j ≡ eqb j v
unfolding only
only_is zero zero = sym (eq-eqb 0 0 refl)
only_is zero (suc j) = sym (eqb-suc-zero j)
only_is (suc v) zero = sym (eqb-zero-suc v)
only_is (suc v) (suc j) = only_is v j ∙ sym (eqb-suc-suc j v)

pub full_is : (m j : ℕ) → dig (replicate m true) j ≡ ltb j m
full_is m j = go (dec_lt j m)
  where
    past : (j < m → ⊥) → dig (replicate m true) j ≡ false
    past h = get_or-eq_default (replicate m true) false (omega (arith, h, length-replicate m true))

    go : Dec (j < m) → dig (replicate m true) j ≡ ltb j m
    go (yes h) = get_or-replicate m j true false h ∙ sym (lt-ltb j m h)
    go (no h) = past h ∙ sym (le-ltb j m (omega (arith, h)))

pub nils_low : (m j : ℕ) (bs : List Bool) → j < m → dig (replicate m false ++ bs) j ≡ false
nils_low zero j bs h = absurd (omega arith)
nils_low (suc m) zero bs h = refl
nils_low (suc m) (suc j) bs h = nils_low m j bs (omega arith)

pub nils_high : (m j : ℕ) (bs : List Bool) → dig (replicate m false ++ bs) (j + m) ≡ dig bs j
nils_high zero j bs =
    let e : j + 0 ≡ j = omega arith in
    ap (dig bs) e
nils_high (suc m) j bs =
    let e : j + suc m ≡ suc (j + m) = omega arith in
    ap (dig (replicate (suc m) false ++ bs)) e ∙ nils_high m j bs

-- ---- with nothing

pub nil_either : (x : List Bool) → either x [] ≡ x
unfolding either
nil_either [] = refl
nil_either (b ∷ x) = refl

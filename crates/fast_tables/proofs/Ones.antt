-- A loop over the ones of a word.
use mathlib.Core.Path.{◌≡◌, refl, sym, ap, ◌∙◌}
use mathlib.Core.Bool.{Bool, true, false, not, ◌&&◌, ◌||◌, cond, and-false, or-false, or_assoc, and-true}
use mathlib.Core.Logic.{◌⊎◌, inl, inr}
use mathlib.Core.List.{List, [], ◌∷◌}
use Prim.Native.Nat.{ℕ, zero, suc, ◌+◌, ◌≤◌, ◌<◌}
use native.Mathlib.Nat.{eq-or-lt_of_le}
use native.Mathlib.Omega.{arith}
use Rattle.lists.specs.Lists.{any, keep, filter, from, upto}
use Rattle.lists.proofs.Truth.{never_true}
use Rattle.lists.proofs.Agreeing.{filter-from}
use Rattle.sets.specs.Word.{dig, count, first, either, less, only}
use Rattle.sets.proofs.Digits.{dig-either, dig-less, dig-only, dig_self, count_none, first_in}
use Rattle.sets.proofs.Ones.{first_least}
use Rattle.fast_tables.specs.Asked.{KnownEdges, unheld}
use Rattle.fast_tables.specs.Words.{ones, gathered}
use Rattle.fast_tables.proofs.Asked.{any-filter}

-- ---- the first that passes goes out
module _ (p q : ℕ → Bool) where
  module _ (f : ℕ) (pf : p f ≡ true) (qf : q f ≡ false) (pl : (k : ℕ) → k < f → p k ≡ false) (ql : (k : ℕ) → k < f → q k ≡ false)
      (up : (k : ℕ) → f < k → p k ≡ q k) where
    filter-first : (n j : ℕ) → j ≤ f → f < j + n → filter p (from j n) ≡ f ∷ filter q (from j n)
    unfolding filter from keep
    filter-first zero j a b = absurd (omega arith)
    filter-first (suc n) j a b = go (eq-or-lt_of_le a) (λ l. filter-first n (suc j) l (omega arith))
      where
        go : (j ≡ f) ⊎ (j < f) → (suc j ≤ f → filter p (from (suc j) n) ≡ f ∷ filter q (from (suc j) n))
            → keep (p j) j (filter p (from (suc j) n)) ≡ f ∷ keep (q j) j (filter q (from (suc j) n))
        go (inl e) ih =
            let r : filter p (from (suc j) n) ≡ filter q (from (suc j) n) = filter-from p q (suc j) n (λ k l m. up k (omega (arith, l, e))) in
            ap (λ (t : Bool). keep t j (filter p (from (suc j) n))) (ap p e ∙ pf) ∙ (λ i. e i ∷ r i)
            ∙ sym (ap (λ (t : Bool). f ∷ keep t j (filter q (from (suc j) n))) (ap q e ∙ qf))
        go (inr l) ih =
            ap (λ (t : Bool). keep t j (filter p (from (suc j) n))) (pl j l) ∙ ih l
            ∙ sym (ap (λ (t : Bool). f ∷ keep t j (filter q (from (suc j) n))) (ql j l))

module _ (m : ℕ) (a : List Bool) where
  -- none is left
  pub ones_none : count a ≡ 0 → ones m a ≡ []
  unfolding ones filter keep
  ones_none e = go (upto m)
    where
      go : (xs : List ℕ) → filter (dig a) xs ≡ []
      go [] = refl
      go (x ∷ xs) = ap (λ (t : Bool). keep t x (filter (dig a) xs)) (never_true (dig a x) (count_none a e x)) ∙ go xs

  -- the lowest, and the others
  pub ones-first : (count a ≡ 0 → ⊥) → ((k : ℕ) → dig a k ≡ true → k < m) → ones m a ≡ first a ∷ ones m (less a (only (first a)))
  unfolding ones upto
  ones-first some short =
      filter-first (dig a) (dig b) f here gone low low' high m 0 (omega arith) (let s = short f here in omega (arith, s))
    where
      f : ℕ
      f = first a

      b : List Bool
      b = less a (only f)

      here : dig a f ≡ true
      here = first_in a some

      gone : dig b f ≡ false
      gone = dig-less a (only f) f ∙ ap (λ (t : Bool). dig a f && not t) (dig_self f) ∙ and-false (dig a f)

      low : (k : ℕ) → k < f → dig a k ≡ false
      low k l = never_true (dig a k) (λ t. let s = first_least a k t in omega (arith, s, l))

      low' : (k : ℕ) → k < f → dig b k ≡ false
      low' k l = dig-less a (only f) k ∙ ap (λ (t : Bool). t && not (dig (only f) k)) (low k l)

      high : (k : ℕ) → f < k → dig a k ≡ dig b k
      high k l =
          sym
          (dig-less a (only f) k
          ∙ ap (λ (t : Bool). dig a k && not t) (never_true (dig (only f) k) (λ t. let s = dig-only f k t in omega (arith, s, l)))
          ∙ and-true (dig a k))

-- ---- what is gathered
cond_dig : (t : Bool) (r : List Bool) (j : ℕ) → dig (cond t r []) j ≡ (t && dig r j)
cond_dig true r j = refl
cond_dig false r j = refl

pub dig-gathered : (test : ℕ → Bool) (mask : ℕ → List Bool) (xs : List ℕ) (w : List Bool) (j : ℕ)
    → dig (gathered test mask xs w) j ≡ (dig w j || any (λ x. test x && dig (mask x) j) xs)
unfolding gathered any
dig-gathered test mask [] w j = sym (or-false (dig w j))
dig-gathered test mask (x ∷ xs) w j =
    dig-gathered test mask xs (either w (cond (test x) (mask x) [])) j
    ∙ ap (λ (t : Bool). t || any (λ x. test x && dig (mask x) j) xs) (dig-either w (cond (test x) (mask x) []) j
    ∙ ap (λ (t : Bool). dig w j || t) (cond_dig (test x) (mask x) j))
    ∙ or_assoc (dig w j) (test x && dig (mask x) j) (any (λ x. test x && dig (mask x) j) xs)

-- some one of a word passes
pub any-ones : (q : ℕ → Bool) (m : ℕ) (a : List Bool) → any q (ones m a) ≡ any (λ k. dig a k && q k) (upto m)
unfolding ones
any-ones q m a = any-filter (dig a) q (upto m)

-- the edges that a mask has open
pub unheld-ones : (m : ℕ) (mask : List Bool) (f : KnownEdges) → unheld m mask f ≡ ones m (less mask f.held)
unfolding unheld ones
unheld-ones m mask f = refl

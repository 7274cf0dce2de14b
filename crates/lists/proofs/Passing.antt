-- Whether some element of a list passes a test, whether all do, and at which places.
use mathlib.Core.Path.{◌≡◌, refl, sym, ap, ◌∙◌}
use mathlib.Core.Bool.{Bool, true, false, ◌&&◌, ◌||◌, true≢false}
use mathlib.Core.List.{List, [], ◌∷◌, ◌++◌, reverse, reverse-cons}
use Prim.Native.Nat.{ℕ, zero, suc, ◌<◌}
use native.Mathlib.Omega.{arith}
use lib.ListN.{length, get_or}
use Rattle.lists.specs.Lists.{any, all, upto}
use Rattle.lists.proofs.Truth.{and_left, and_right, and_both, or_left, or_right}
use Rattle.lists.proofs.Places.{upto_length, upto-at}

module _ {A : Type 0} (p : A → Bool) (z : A) where
  -- some element
  pub any_yes : (xs : List A) → any p xs ≡ true → (i : ℕ) × (i < length xs) × (p (get_or xs i z) ≡ true)
  unfolding any
  any_yes [] e = absurd (true≢false (sym e))
  any_yes (y ∷ xs) e = go (p y) refl e (any_yes xs)
    where
      go : (t : Bool) → p y ≡ t → (t || any p xs) ≡ true → (any p xs ≡ true → (i : ℕ) × (i < length xs) × (p (get_or xs i z) ≡ true))
          → (i : ℕ) × (i < length (y ∷ xs)) × (p (get_or (y ∷ xs) i z) ≡ true)
      go true q h f = (0, omega arith, q)
      go false q h f = let r = f h in (suc r.0, (let l = r.1 in omega arith), r.2)

  pub any_is : (xs : List A) (i : ℕ) → i < length xs → p (get_or xs i z) ≡ true → any p xs ≡ true
  unfolding any
  any_is [] i h e = absurd (omega arith)
  any_is (y ∷ xs) zero h e = or_left (p y) (any p xs) e
  any_is (y ∷ xs) (suc i) h e = or_right (p y) (any p xs) (any_is xs i (omega arith) e)

  -- every element
  pub all_yes : (xs : List A) → all p xs ≡ true → (i : ℕ) → i < length xs → p (get_or xs i z) ≡ true
  unfolding all
  all_yes [] e i h = absurd (omega arith)
  all_yes (y ∷ xs) e zero h = and_left (p y) (all p xs) e
  all_yes (y ∷ xs) e (suc i) h = all_yes xs (and_right (p y) (all p xs) e) i (omega arith)

  pub all_is : (xs : List A) → ((i : ℕ) → i < length xs → p (get_or xs i z) ≡ true) → all p xs ≡ true
  unfolding all
  all_is [] f = refl
  all_is (y ∷ xs) f = and_both (f 0 (omega arith)) (all_is xs (λ i h. f (suc i) (omega arith)))

-- some number below n passes
module _ (p : ℕ → Bool) (n : ℕ) where
  pub some_yes : any p (upto n) ≡ true → (k : ℕ) × (k < n) × (p k ≡ true)
  some_yes e =
      let r = any_yes p 0 (upto n) e in
      let h : r.0 < n = omega (arith, r.1, upto_length n) in
      (r.0, h, ap p (sym (upto-at n r.0 h)) ∙ r.2)

  pub some_is : (k : ℕ) → k < n → p k ≡ true → any p (upto n) ≡ true
  some_is k h e = any_is p 0 (upto n) k (omega (arith, upto_length n)) (ap p (upto-at n k h) ∙ e)

  -- each does
  pub each_yes : all p (upto n) ≡ true → (k : ℕ) → k < n → p k ≡ true
  each_yes e k h = ap p (sym (upto-at n k h)) ∙ all_yes p 0 (upto n) e k (omega (arith, upto_length n))

-- ---- a list that grows, two lists, a list backwards

module _ {A : Type 0} (p : A → Bool) where
  -- one element more
  pub all_snoc : (xs : List A) (x : A) → all p xs ≡ true → p x ≡ true → all p (xs ++ (x ∷ [])) ≡ true
  unfolding all
  all_snoc [] x h e = rw e refl
  all_snoc (y ∷ xs) x h e = go (p y) h (λ q. all_snoc xs x q e)
    where
      go : (b : Bool) → (b && all p xs) ≡ true → (all p xs ≡ true → all p (xs ++ (x ∷ [])) ≡ true) → (b && all p (xs ++ (x ∷ []))) ≡ true
      go true h ih = ih h
      go false h ih = h

  -- one that fails
  pub all-fails : (xs : List A) (d : A) (k : ℕ) → k < length xs → p (get_or xs k d) ≡ false → all p xs ≡ false
  unfolding all
  all-fails [] d k h e = absurd (omega arith)
  all-fails (x ∷ xs) d zero h e = rw e refl
  all-fails (x ∷ xs) d (suc k) h e = go (p x) (all-fails xs d k (omega arith) e)
    where
      go : (b : Bool) → all p xs ≡ false → (b && all p xs) ≡ false
      go true h = h
      go false h = refl

  -- two lists one behind the other, and a list backwards
  pub all_append : (xs ys : List A) → all p (xs ++ ys) ≡ all p xs && all p ys
  unfolding all
  all_append [] ys = refl
  all_append (x ∷ xs) ys = go (p x) (all_append xs ys)
    where
      go : (b : Bool) → all p (xs ++ ys) ≡ all p xs && all p ys → (b && all p (xs ++ ys)) ≡ (b && all p xs) && all p ys
      go true e = e
      go false e = refl

  pub all_reverse : (xs : List A) → all p (reverse xs) ≡ all p xs
  unfolding all
  all_reverse [] = refl
  all_reverse (x ∷ xs) =
      ap (all p) (reverse-cons x xs) ∙ all_append (reverse xs) (x ∷ []) ∙ ap (λ (b : Bool). b && (p x && true)) (all_reverse xs)
      ∙ swap (all p xs) (p x)
    where
      swap : (a b : Bool) → (a && (b && true)) ≡ (b && a)
      swap true true = refl
      swap true false = refl
      swap false true = refl
      swap false false = refl

-- The elements of lists by their places.
use mathlib.Core.Path.{◌≡◌, refl, sym, ap, ◌∙◌}
use mathlib.Core.Bool.{Bool, ◌||◌, or_assoc, or-false}
use mathlib.Core.List.{List, [], ◌∷◌, ◌++◌, map}
use Prim.Native.Nat.{ℕ, zero, suc, ◌+◌, ◌<◌, zero-le, suc-le-suc}
use native.Mathlib.Nat.{le_of_suc-le-suc, not-suc-le-zero}
use native.Mathlib.Numerals.{add-one}
use native.Mathlib.Omega.{arith}
use lib.ListN.{length, take, drop, get_or, length-map}
use lib.Seq.{take-suc, drop-cons}
use Rattle.lists.specs.Lists.{any, from, upto}

-- one element more, of those taken and of those left
module _ {A : Type 0} (l : List A) (k : ℕ) (d : A) (h : k < length l) where
  pub take_more : take (k + 1) l ≡ take k l ++ (get_or l k d ∷ [])
  take_more = rw add-one (take-suc l k d h)

  pub drop_more : drop k l ≡ get_or l k d ∷ drop (k + 1) l
  drop_more = rw add-one (drop-cons l k d h)

module _ {A B : Type 0} (f : A → B) where
  pub map_at : (l : List A) (k : ℕ) (d : A) (e : B) → k < length l → get_or (map f l) k e ≡ f (get_or l k d)
  map_at [] k d e h = absurd (not-suc-le-zero h)
  map_at (x ∷ l) zero d e h = refl
  map_at (x ∷ l) (suc k) d e h = map_at l k d e (le_of_suc-le-suc h)

  -- what holds of every value and of the default holds at every place
  pub map_each : (P : B → Type 0) → ((x : A) → P (f x)) → (l : List A) (k : ℕ) {e : B} → P e → P (get_or (map f l) k e)
  map_each P h [] k p = p
  map_each P h (x ∷ l) zero p = h x
  map_each P h (x ∷ l) (suc k) p = map_each P h l k p

-- a place counted from the next one on
pub one_later : (k i : ℕ) → suc k + i ≡ k + suc i
one_later k i = omega arith

from_length : (j n : ℕ) → length (from j n) ≡ n
unfolding from
from_length j zero = refl
from_length j (suc n) = ap suc (from_length (suc j) n)

from_at : (j n k : ℕ) → k < n → get_or (from j n) k 0 ≡ j + k
unfolding from
from_at j zero k h = absurd (not-suc-le-zero h)
from_at j (suc n) zero h = omega arith
from_at j (suc n) (suc k) h =
    let e : suc j + k ≡ j + suc k = omega arith in
    from_at (suc j) n k (le_of_suc-le-suc h) ∙ e

-- the numbers below n
pub upto_length : (n : ℕ) → length (upto n) ≡ n
unfolding upto
upto_length n = from_length 0 n

pub upto-at : (n k : ℕ) → k < n → get_or (upto n) k 0 ≡ k
unfolding upto
upto-at n k h =
    let e : 0 + k ≡ k = omega arith in
    from_at 0 n k h ∙ e

-- what f makes of the numbers below n
module _ {A : Type 0} (f : ℕ → A) (n : ℕ) where
  pub made_length : length (map f (upto n)) ≡ n
  made_length = length-map (upto n) f ∙ upto_length n

  pub made_at : (k : ℕ) (d : A) → k < n → get_or (map f (upto n)) k d ≡ f k
  made_at k d h = map_at f (upto n) k 0 d (omega (arith, upto_length n)) ∙ ap f (upto-at n k h)

-- ---- `any` of those passed so far, and of two tests that say the same at every place

module _ {A : Type 0} (p : A → Bool) where
  any_snoc : (xs : List A) (x : A) → any p (xs ++ (x ∷ [])) ≡ any p xs || p x
  unfolding any
  any_snoc [] x = or-false (p x)
  any_snoc (y ∷ xs) x = ap (λ (r : Bool). p y || r) (any_snoc xs x) ∙ sym (or_assoc (p y) (any p xs) (p x))

  pub any-more : (l : List A) (k : ℕ) (d : A) → k < length l → any p (take (k + 1) l) ≡ any p (take k l) || p (get_or l k d)
  any-more l k d h = ap (any p) (take_more l k d h) ∙ any_snoc (take k l) (get_or l k d)

  pub any_same : (q : A → Bool) (l : List A) (d : A) → ((k : ℕ) → k < length l → p (get_or l k d) ≡ q (get_or l k d)) → any p l ≡ any q l
  unfolding any
  any_same q [] d h = refl
  any_same q (x ∷ l) d h =
      let t = any_same q l d (λ k m. h (suc k) (suc-le-suc m)) in
      λ i. h 0 (suc-le-suc zero-le) i || t i

-- of the numbers below n
module _ (p : ℕ → Bool) (n : ℕ) where
  pub any-below_more : (k : ℕ) → k < n → any p (take (k + 1) (upto n)) ≡ any p (take k (upto n)) || p k
  any-below_more k h =
      any-more p (upto n) k 0 (omega (arith, upto_length n)) ∙ ap (λ (j : ℕ). any p (take k (upto n)) || p j) (upto-at n k h)

  pub any-below-same : (q : ℕ → Bool) → ((k : ℕ) → k < n → p k ≡ q k) → any p (upto n) ≡ any q (upto n)
  any-below-same q h =
      any_same p q (upto n) 0
      (λ k m.
      let e : get_or (upto n) k 0 ≡ k = upto-at n k (omega (arith, upto_length n)) in
      ap p e ∙ h k (omega (arith, upto_length n)) ∙ sym (ap q e))

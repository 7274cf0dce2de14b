-- The words on lists and searches that document 01's definitions are written in.
-- A recursive call that a test may make needless is bound by a `let`, which antt computes only where it is read.
use Rattle.std.specs.Prelude.{ℕ, zero, suc, Bool, true, false, ◌||◌, ◌&&◌, cond, eqb}
use Rattle.std.proofs.Math.Bool.{xor}
use Rattle.std.proofs.Math.Option.{Option, none, some}
use mathlib.Core.List.{List, [], ◌∷◌}

module _ {ℓ} {A : Type ℓ} where
  -- some element passes; all do; those that do; the first that does
  unfoldable pub any : (A → Bool) → List A → Bool
  any p [] = false
  any p (x ∷ xs) = let r = any p xs in p x || r

  unfoldable pub all : (A → Bool) → List A → Bool
  all p [] = true
  all p (x ∷ xs) = let r = all p xs in p x && r

  unfoldable pub keep : Bool → A → List A → List A
  keep true x xs = x ∷ xs
  keep false x xs = xs

  unfoldable pub filter : (A → Bool) → List A → List A
  unfolding keep
  filter p [] = []
  filter p (x ∷ xs) = keep (p x) x (filter p xs)

  unfoldable pub find : (A → Bool) → List A → Option A
  find p [] = none
  find p (x ∷ xs) = let r = find p xs in cond (p x) (some x) r

module _ {ℓ κ} {A : Type ℓ} {B : Type κ} where
  -- f at each side of the ring a1 .. an: f a1 a2, f a2 a3, .., f an a1
  unfoldable pub sides_from : (A → A → B) → A → A → List A → List B
  sides_from f a x [] = f x a ∷ []
  sides_from f a x (y ∷ ys) = f x y ∷ sides_from f a y ys

  unfoldable pub sides : (A → A → B) → List A → List B
  unfolding sides_from
  sides f [] = []
  sides f (a ∷ r) = sides_from f a a r

-- of tests already made: one is true; the number of true ones is odd
unfoldable pub any_true : List Bool → Bool
any_true [] = false
any_true (b ∷ bs) = let r = any_true bs in b || r

unfoldable pub odd_true : List Bool → Bool
unfolding xor
odd_true [] = false
odd_true (b ∷ bs) = xor b (odd_true bs)

-- the n numbers from j on, and those below n
unfoldable pub from : ℕ → ℕ → List ℕ
from j zero = []
from j (suc n) = j ∷ from (suc j) n

unfoldable pub upto : ℕ → List ℕ
unfolding from
upto n = from 0 n

-- the lowest number below n that passes
unfoldable pub lowest : (ℕ → Bool) → ℕ → Option ℕ
unfolding find upto
lowest p n = find p (upto n)

unfoldable pub member : ℕ → List ℕ → Bool
unfolding any
member x xs = any (eqb x) xs

unfoldable pub same_list : List ℕ → List ℕ → Bool
same_list [] [] = true
same_list [] (y ∷ ys) = false
same_list (x ∷ xs) [] = false
same_list (x ∷ xs) (y ∷ ys) = let r = same_list xs ys in eqb x y && r

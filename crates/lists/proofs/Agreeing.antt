-- Two tests, or two functions, that agree on the numbers below n: searches, choices and tables are the same.
use mathlib.Core.Path.{◌≡◌, refl}
use mathlib.Core.Bool.{Bool, cond}
use mathlib.Core.Option.{some}
use mathlib.Core.List.{◌∷◌, map}
use Prim.Native.Nat.{ℕ, zero, suc, ◌+◌, ◌≤◌, ◌<◌}
use native.Mathlib.Omega.{arith}
use Rattle.lists.specs.Lists.{filter, find, keep, from, upto, lowest}

module _ (p q : ℕ → Bool) where
  find-from : (j n : ℕ) → ((k : ℕ) → j ≤ k → k < j + n → p k ≡ q k) → find p (from j n) ≡ find q (from j n)
  unfolding find from
  find-from j zero h = refl
  find-from j (suc n) h =
      λ i. cond (h j (omega arith) (omega arith) i) (some j) (find-from (suc j) n (λ k a b. h k (omega arith) (omega arith)) i)

  pub lowest-same : (n : ℕ) → ((k : ℕ) → k < n → p k ≡ q k) → lowest p n ≡ lowest q n
  unfolding lowest upto
  lowest-same n h = find-from 0 n (λ k a b. h k (omega arith))

  pub filter-from : (j n : ℕ) → ((k : ℕ) → j ≤ k → k < j + n → p k ≡ q k) → filter p (from j n) ≡ filter q (from j n)
  unfolding filter from
  filter-from j zero h = refl
  filter-from j (suc n) h =
      λ i. keep (h j (omega arith) (omega arith) i) j (filter-from (suc j) n (λ k a b. h k (omega arith) (omega arith)) i)

  pub filter_same : (n : ℕ) → ((k : ℕ) → k < n → p k ≡ q k) → filter p (upto n) ≡ filter q (upto n)
  unfolding upto
  filter_same n h = filter-from 0 n (λ k a b. h k (omega arith))

module _ {A : Type 0} (f g : ℕ → A) where
  map_from : (j n : ℕ) → ((k : ℕ) → j ≤ k → k < j + n → f k ≡ g k) → map f (from j n) ≡ map g (from j n)
  unfolding from
  map_from j zero h = refl
  map_from j (suc n) h = λ i. h j (omega arith) (omega arith) i ∷ map_from (suc j) n (λ k a b. h k (omega arith) (omega arith)) i

  pub map_same : (n : ℕ) → ((k : ℕ) → k < n → f k ≡ g k) → map f (upto n) ≡ map g (upto n)
  unfolding upto
  map_same n h = map_from 0 n (λ k a b. h k (omega arith))

-- A search for the lowest number that passes and finds none.
use mathlib.Core.Path.{◌≡◌, refl}
use mathlib.Core.Bool.{Bool, true, false}
use mathlib.Core.Option.{none}
use Prim.Native.Nat.{ℕ, zero, suc, ◌+◌, ◌≤◌, ◌<◌}
use native.Mathlib.Omega.{arith}
use lib.Dec.{ltb}
use borrow.Author.Tests.{ltb-true, ltb-false}
use Rattle.lists.specs.Lists.{find, from, upto, lowest}

-- a search that finds nothing: nothing passes
module _ (p : ℕ → Bool) where
  find_none : (m i : ℕ) → find p (from i m) ≡ none → (k : ℕ) → i ≤ k → k < i + m → p k ≡ false
  unfolding find from
  find_none zero i e k a b = absurd (omega arith)
  find_none (suc m) i e k a b = here (p i) refl (λ q t. find_none m (suc i) q k t (omega arith))
    where
      past : p i ≡ false → ((find p (from (suc i) m) ≡ none) → suc i ≤ k → p k ≡ false) → find p (from (suc i) m) ≡ none → (t : Bool)
          → ltb i k ≡ t → p k ≡ false
      past f ih q true t = ih q (ltb-true i k t)
      past f ih q false t = let s : i ≡ k = omega (arith, ltb-false i k t) in rw (← s) f

      here : (b : Bool) → p i ≡ b → ((find p (from (suc i) m) ≡ none) → suc i ≤ k → p k ≡ false) → p k ≡ false
      here true f ih = let z : ◌≡◌ {A = ℕ} 0 1 = cc (rw f at e) in absurd (omega arith)
      here false f ih = past f ih (rw f at e) (ltb i k) refl

  pub lowest-none : (n : ℕ) → lowest p n ≡ none → (k : ℕ) → k < n → p k ≡ false
  unfolding lowest upto
  lowest-none n e k h = find_none n 0 e k (omega arith) (omega arith)

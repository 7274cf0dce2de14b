-- What is made of the numbers below n that pass, as a loop that looks at 0, 1, .. in turn.
use mathlib.Core.Path.{◌≡◌, refl}
use mathlib.Core.Bool.{Bool, true, false}
use mathlib.Core.List.{List, [], map}
use Prim.Native.Nat.{ℕ, suc, ◌+◌, ◌-◌, ◌≤◌, ◌<◌}
use native.Mathlib.Nat.{sub-zero}
use native.Mathlib.Numerals.{add-one}
use native.Mathlib.Omega.{arith}
use Rattle.lists.specs.Lists.{keep, filter, from, upto}

module _ {B : Type 0} (g : ℕ → B) (p : ℕ → Bool) (n : ℕ) where
  -- what is made of those from k on
  unfoldable pub kept_from : ℕ → List B
  kept_from k = map g (filter p (from k (n - k)))

  pub kept_start : map g (filter p (upto n)) ≡ kept_from 0
  unfolding kept_from upto
  kept_start = rw sub-zero refl

  map_keep : (b : Bool) (k : ℕ) (ks : List ℕ) → map g (keep b k ks) ≡ keep b (g k) (map g ks)
  unfolding keep
  map_keep true k ks = refl
  map_keep false k ks = refl

  pub kept_next : (k : ℕ) → k < n → kept_from k ≡ keep (p k) (g k) (kept_from (k + 1))
  unfolding kept_from filter from
  kept_next k h =
      let d : n - k ≡ suc (n - (k + 1)) = omega arith in
      rw (d, add-one) (map_keep (p k) k (filter p (from (suc k) (n - suc k))))

  pub kept_end : (k : ℕ) → n ≤ k → kept_from k ≡ []
  unfolding kept_from filter from
  kept_end k h =
      let d : n - k ≡ 0 = omega arith in
      rw d refl

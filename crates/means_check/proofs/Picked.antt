-- The numbers that pass, each once.
use mathlib.Core.Path.{◌≡◌, refl, ap}
use mathlib.Core.Bool.{Bool, true, false}
use Prim.Native.Nat.{ℕ, zero, suc, ◌≤◌, ◌<◌}
use native.Mathlib.Omega.{arith}
use lib.ListN.{length, get_or}
use Rattle.lists.specs.Lists.{keep, filter, from}

kept_low : (p : ℕ → Bool) (m i k : ℕ) → k < length (filter p (from i m)) → i ≤ get_or (filter p (from i m)) k 0
unfolding filter keep from
kept_low p zero i k h = absurd (omega arith)
kept_low p (suc m) i k h = go (p i) k h (kept_low p m (suc i))
  where
    go : (b : Bool) (k : ℕ) → k < length (keep b i (filter p (from (suc i) m)))
        → ((k : ℕ) → k < length (filter p (from (suc i) m)) → suc i ≤ get_or (filter p (from (suc i) m)) k 0)
        → i ≤ get_or (keep b i (filter p (from (suc i) m))) k 0
    go true zero h r = omega arith
    go true (suc k) h r = omega (arith, r k (omega arith))
    go false k h r = omega (arith, r k h)

pub kept_once : (p : ℕ → Bool) (m i j k : ℕ) → j < length (filter p (from i m)) → k < length (filter p (from i m))
    → get_or (filter p (from i m)) j 0 ≡ get_or (filter p (from i m)) k 0 → j ≡ k
unfolding filter keep from
kept_once p zero i j k hj hk e = absurd (omega arith)
kept_once p (suc m) i j k hj hk e = go (p i) j k hj hk e (kept_once p m (suc i))
  where
    low : (k : ℕ) → k < length (filter p (from (suc i) m)) → suc i ≤ get_or (filter p (from (suc i) m)) k 0
    low k h = kept_low p m (suc i) k h

    go : (b : Bool) (j k : ℕ) → j < length (keep b i (filter p (from (suc i) m))) → k < length (keep b i (filter p (from (suc i) m)))
        → get_or (keep b i (filter p (from (suc i) m))) j 0 ≡ get_or (keep b i (filter p (from (suc i) m))) k 0
        → ((j k : ℕ) → j < length (filter p (from (suc i) m)) → k < length (filter p (from (suc i) m))
        → get_or (filter p (from (suc i) m)) j 0 ≡ get_or (filter p (from (suc i) m)) k 0 → j ≡ k) → j ≡ k
    go true zero zero hj hk e r = refl
    go true zero (suc k) hj hk e r = absurd (omega (arith, low k (omega arith)))
    go true (suc j) zero hj hk e r = absurd (omega (arith, low j (omega arith)))
    go true (suc j) (suc k) hj hk e r = ap suc (r j k (omega arith) (omega arith) e)
    go false j k hj hk e r = r j k hj hk e

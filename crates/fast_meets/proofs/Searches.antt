-- Searches that find the same: a test may leave out numbers for which it takes a lower one.
use mathlib.Core.Path.{◌≡◌, refl, ap}
use mathlib.Core.Bool.{Bool, true}
use mathlib.Core.Option.{Option, none, some}
use Prim.Native.Nat.{ℕ, ◌≤◌, ◌<◌}
use native.Mathlib.Omega.{arith}
use native.Mathlib.Decide.{dec_le}
use Rattle.lists.specs.Lists.{lowest}
use Rattle.means_drawing.specs.Drawings.{Finds}
use Rattle.means_drawing.proofs.Searches.{finds}

-- one answer
pub finds_one : (P : ℕ → Type 0) (n : ℕ) (a b : Option ℕ) → Finds P n a → Finds P n b → a ≡ b
finds_one P n none none f g = refl
finds_one P n none (some j) f g = absurd (f j g.0 g.1)
finds_one P n (some i) none f g = absurd (g i f.0 f.1)
finds_one P n (some i) (some j) f g = ap some (same (dec_le i j) (dec_le j i))
  where
    same : Dec (i ≤ j) → Dec (j ≤ i) → i ≡ j
    same (yes h) (yes l) = omega arith
    same (no h) l = absurd (f.2 j (omega arith) g.1)
    same (yes h) (no l) = absurd (g.2 i (omega arith) f.1)

-- q holds only where P does, and where P holds q holds there or at a lower number
pub finds_lower : (q : ℕ → Bool) (P : ℕ → Type 0) (n : ℕ) → ((k : ℕ) → k < n → q k ≡ true → P k)
    → ((k : ℕ) → k < n → P k → (j : ℕ) × (j ≤ k) × (q j ≡ true)) → Finds P n (lowest q n)
finds_lower q P n f g = go (lowest q n) (finds q (λ k. q k ≡ true) n (λ k h. ((λ e. e), (λ e. e))))
  where
    go : (r : Option ℕ) → Finds (λ k. q k ≡ true) n r → Finds P n r
    go none t = λ k h p. let l = g k h p in t l.0 (omega (arith, l.1)) l.2
    go (some i) t = (t.0, f i t.0 t.1, λ k h p. let l = g k (omega (arith, t.0)) p in t.2 l.0 (omega (arith, l.1)) l.2)

-- The lowest number that passes a test, as the lowest that has what the test stands for.
use mathlib.Core.Path.{◌≡◌, refl, sym, ◌∙◌}
use mathlib.Core.Bool.{Bool, true, false, cond, true≢false}
use mathlib.Core.Logic.{◌↔◌}
use mathlib.Core.Option.{Option, none, some}
use Prim.Native.Nat.{ℕ, zero, suc, ◌+◌, ◌≤◌, ◌<◌}
use native.Mathlib.Decide.{ℕ_discrete}
use native.Mathlib.Omega.{arith}
use Rattle.lists.specs.Lists.{find, from, upto, lowest}
use Rattle.means_drawing.specs.Drawings.{Finds}

module _ (p : ℕ → Bool) (P : ℕ → Type 0) where
  abbrev Among : ℕ → ℕ → Option ℕ → Type 0
  Among i m none = (k : ℕ) → i ≤ k → k < i + m → P k → ⊥
  Among i m (some j) = (i ≤ j) × (j < i + m) × P j × ((k : ℕ) → i ≤ k → k < j → P k → ⊥)

  past : (i m : ℕ) → (P i → ⊥) → (o : Option ℕ) → Among (suc i) m o → Among i (suc m) o
  past i m f none r = λ k a b q. go k a b q (ℕ_discrete i k)
    where
      go : (k : ℕ) → i ≤ k → k < i + suc m → P k → Dec (i ≡ k) → ⊥
      go k a b q (yes e) = f (rw e q)
      go k a b q (no e) = r k (omega arith) (omega arith) q
  past i m f (some j) r = (omega (arith, r.0), omega (arith, r.1), r.2, λ k a b q. go k a b q (ℕ_discrete i k))
    where
      go : (k : ℕ) → i ≤ k → k < j → P k → Dec (i ≡ k) → ⊥
      go k a b q (yes e) = f (rw e q)
      go k a b q (no e) = r.3 k (omega arith) b q

  finds_from : (m i : ℕ) → ((k : ℕ) → i ≤ k → k < i + m → (p k ≡ true) ↔ P k) → Among i m (find p (from i m))
  unfolding find from
  finds_from zero i h = λ k a b q. omega arith
  finds_from (suc m) i h = here (p i) refl (finds_from m (suc i) (λ k a b. h k (omega arith) (omega arith)))
    where
      here : (b : Bool) → p i ≡ b → Among (suc i) m (find p (from (suc i) m))
          → Among i (suc m) (cond b (some i) (find p (from (suc i) m)))
      here true e r = (omega arith, omega arith, (h i (omega arith) (omega arith)).0 e, λ k a b q. omega arith)
      here false e r = past i m (λ q. true≢false (sym ((h i (omega arith) (omega arith)).1 q) ∙ e)) (find p (from (suc i) m)) r

  pub finds : (n : ℕ) → ((k : ℕ) → k < n → (p k ≡ true) ↔ P k) → Finds P n (lowest p n)
  unfolding lowest upto
  finds n h = whole (find p (from 0 n)) (finds_from n 0 (λ k a b. h k (omega arith)))
    where
      whole : (o : Option ℕ) → Among 0 n o → Finds P n o
      whole none r = λ k b q. r k (omega arith) (omega arith) q
      whole (some j) r = (omega (arith, r.1), r.2, λ k b q. r.3 k (omega arith) b q)

-- a search that finds nothing
pub finds_none : (P : ℕ → Type 0) (n : ℕ) (o : Option ℕ) → Finds P n o → (o ≡ none) ↔ ((k : ℕ) → k < n → P k → ⊥)
finds_none P n none f = ((λ e. f), (λ h. refl))
finds_none P n (some i) f = ((λ e. let z : ◌≡◌ {A = ℕ} 0 1 = cc in absurd (omega arith)), (λ h. absurd (h i f.0 f.1)))

-- The first k numbers and the next one, in truth values.
use mathlib.Core.Path.{◌≡◌, refl, sym, ap, ◌∙◌}
use mathlib.Core.Bool.{Bool, true, false, ◌&&◌, ◌||◌, or-false, and-true, and-false}
use Prim.Native.Nat.{ℕ, ◌+◌}
use native.Mathlib.Decide.{ℕ_discrete}
use native.Mathlib.Omega.{arith}
use borrow.Author.Tests.{eq-eqb, ne_eqb, lt-ltb, le-ltb, ltb-true, ltb-false}
use lib.Dec.{eqb, ltb}

pub before_next : (u k : ℕ) → ltb u (k + 1) ≡ (ltb u k || eqb u k)
before_next u k = go (ℕ_discrete u k)
  where
    other : (u ≡ k → ⊥) → (b : Bool) → ltb u k ≡ b → ltb u (k + 1) ≡ ltb u k
    other q true p = lt-ltb u (k + 1) (omega (arith, ltb-true u k p)) ∙ sym p
    other q false p = le-ltb u (k + 1) (omega (arith, q, ltb-false u k p)) ∙ sym p

    go : Dec (u ≡ k) → ltb u (k + 1) ≡ (ltb u k || eqb u k)
    go (yes q) = lt-ltb u (k + 1) (omega arith) ∙ sym (λ i. le-ltb u k (omega arith) i || eq-eqb u k q i)
    go (no q) = other q (ltb u k) refl ∙ sym (ap (λ (b : Bool). ltb u k || b) (ne_eqb u k q) ∙ or-false (ltb u k))

-- what holds of k is asked of u only where it is k
pub at_next : (test : ℕ → Bool) (u k : ℕ) → (test k && eqb u k) ≡ (eqb u k && test u)
at_next test u k = go (ℕ_discrete u k)
  where
    go : Dec (u ≡ k) → (test k && eqb u k) ≡ (eqb u k && test u)
    go (yes q) =
        ap (λ (b : Bool). test k && b) (eq-eqb u k q) ∙ and-true (test k) ∙ ap test (sym q)
        ∙ sym (ap (λ (b : Bool). b && test u) (eq-eqb u k q))
    go (no q) =
        ap (λ (b : Bool). test k && b) (ne_eqb u k q) ∙ and-false (test k) ∙ sym (ap (λ (b : Bool). b && test u) (ne_eqb u k q))

pub spread : (d a b c : Bool) → ((d || (a && c)) || (b && c)) ≡ (d || ((a || b) && c))
spread true a b c = refl
spread false true true true = refl
spread false true true false = refl
spread false true false true = refl
spread false true false false = refl
spread false false b c = refl

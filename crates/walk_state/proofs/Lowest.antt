-- Whether a set is empty, as the code asks it, and a set without its lowest.
use mathlib.Core.Bool.{Bool, true, false}
use mathlib.Core.List.{List, [], ◌∷◌}
use mathlib.Core.Path.{◌≡◌, refl, sym, ap, ◌∙◌, subst}
use Prim.Native.Nat.{ℕ, suc, ◌<◌}
use native.Mathlib.Omega.{arith}
use lib.Dec.{eqb}
use borrow.Author.Tests.{eqb-true, eqb-false}
use Rattle.sets.specs.Word.{count, first, less, only}
use Rattle.sets.specs.Kinds.{Kind, Has, Lowest, Dropped}
use Rattle.sets.proofs.Digits.{less_nil, count-only}
use Rattle.sets.proofs.Laws.{Laws}
use Rattle.fast_sweeps.specs.Worklist.{without_lowest}

-- ---- without the lowest

after_is : (a : List Bool) → less a (only (first a)) ≡ without_lowest a
unfolding less only first without_lowest
after_is [] = refl
after_is (true ∷ a) = ap (λ (x : List Bool). false ∷ x) (less_nil a)
after_is (false ∷ a) = ap (λ (x : List Bool). false ∷ x) (after_is a)

module _ {K : Kind} {x y : K.Of} {e : ℕ} (low : Lowest K x e) (d : Dropped K x e y) where
  pub drops : (a : List Bool) → K.Is x a → K.Is y (without_lowest a)
  drops a i = subst (K.Is y) (ap (λ (k : ℕ). less a (only k)) (low.same a i) ∙ after_is a) (d.same a i)

-- one fewer is in it
pub drop-one : {K : Kind} (laws : Laws K) {x y : K.Of} (k : ℕ) → laws.Fits x → Has K x k → Dropped K x k y → suc (K.size y) ≡ K.size x
drop-one {K} laws {x} k h there d =
    let a = laws.digits_of x in
    let i = laws.is_digits x h in
    omega (arith, laws.size_is i, laws.size_is (d.same a i), count-only a k (there a i))

-- ---- whether a set is empty, as the code asks it

module _ (K : Kind) (x : K.Of) {b : Bool} (e : b ≡ eqb (K.size x) 0) where
  pub is_none : b ≡ true → K.size x ≡ 0
  is_none t = eqb-true (K.size x) 0 (sym e ∙ t)

  pub is_some : b ≡ false → 0 < K.size x
  is_some f = let n = eqb-false (K.size x) 0 (sym e ∙ f) in omega (arith, n)

module _ {K : Kind} (laws : Laws K) {x : K.Of} {a : List Bool} where
  pub some_in : K.Is x a → 0 < K.size x → count a ≡ 0 → ⊥
  some_in i p z = omega (arith, laws.size_is i)

  pub none_in : K.Is x a → K.size x ≡ 0 → count a ≡ 0
  none_in i z = sym (laws.size_is i) ∙ z

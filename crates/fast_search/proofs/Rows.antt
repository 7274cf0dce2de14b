-- Loops over the set digits of a word.
use mathlib.Core.Bool.{Bool, true, false, ◌&&◌, ◌||◌, true≢false}
use mathlib.Core.List.{List, [], ◌∷◌, ◌++◌}
use mathlib.Core.Path.{◌≡◌, refl, sym, ap, ◌∙◌}
use Prim.Native.Nat.{ℕ, zero, suc, ◌+◌}
use native.Mathlib.Omega.{arith}
use lib.ListN.{replicate}
use borrow.Author.Tests.{eqb-true}
use Rattle.lists.proofs.Truth.{or-none}
use Rattle.sets.specs.Word.{dig, count, empty, first, less, only}
use Rattle.sets.proofs.Digits.{less_nil}
use Rattle.sets.proofs.Ones.{dig-none}
use Rattle.fast_search.specs.Rows.{each_of, some_of}

-- ---- one digit

nils_shift : (m : ℕ) (bs : List Bool) → replicate m false ++ (false ∷ bs) ≡ replicate (suc m) false ++ bs
nils_shift zero bs = refl
nils_shift (suc m) bs = ap (λ (l : List Bool). false ∷ l) (nils_shift m bs)

-- ---- no digit is set
pub empty-none : (a : List Bool) → empty a ≡ true → (k : ℕ) → dig a k ≡ false
empty-none a e k = dig-none a (eqb-true (count a) 0 e) k

-- ---- a loop over the set digits: at each turn the first that is set, and what is left without it
module _ {A : Type 0} (f : ℕ → List Bool → List A) where
  each_at : (i : ℕ) (a : List Bool) → (count a ≡ 0 → ⊥)
      → each_of f i a ≡ f (i + first a) (replicate i false ++ less a (only (first a))) ++ each_of f i (less a (only (first a)))
  unfolding each_of count first less only
  each_at i [] n = absurd (n refl)
  each_at i (true ∷ bs) n =
      let e : replicate (suc i) false ++ bs ≡ replicate i false ++ (false ∷ less bs []) = sym (nils_shift i bs)
      ∙ ap (λ (l : List Bool). replicate i false ++ (false ∷ l)) (sym (less_nil bs)) in
      let z : i ≡ i + 0 = omega arith in
      λ t. f (z t) (e t) ++ each_of f (suc i) (sym (less_nil bs) t)
  each_at i (false ∷ bs) n =
      let e : suc i + first bs ≡ i + suc (first bs) = omega arith in
      each_at (suc i) bs (λ z. n (omega arith))
      ∙ (λ t. f (e t) (sym (nils_shift i (less bs (only (first bs)))) t) ++ each_of f (suc i) (less bs (only (first bs))))

  pub each_next : (a : List Bool) → (count a ≡ 0 → ⊥)
      → each_of f 0 a ≡ f (first a) (less a (only (first a))) ++ each_of f 0 (less a (only (first a)))
  each_next a n =
      let e : 0 + first a ≡ first a = omega arith in
      each_at 0 a n ∙ (λ t. f (e t) (less a (only (first a))) ++ each_of f 0 (less a (only (first a))))

  pub each_none : (i : ℕ) (a : List Bool) → ((k : ℕ) → dig a k ≡ false) → each_of f i a ≡ []
  unfolding each_of
  each_none i [] h = refl
  each_none i (true ∷ bs) h = absurd (true≢false (h 0))
  each_none i (false ∷ bs) h = each_none (suc i) bs (λ k. h (suc k))

  pub each_end : (a : List Bool) → empty a ≡ true → each_of f 0 a ≡ []
  each_end a e = each_none 0 a (empty-none a e)

-- ---- whether a set digit passes
module _ (t : ℕ → Bool) where
  some_at : (i : ℕ) (a : List Bool) → (count a ≡ 0 → ⊥) → some_of t i a ≡ (t (i + first a) || some_of t i (less a (only (first a))))
  unfolding some_of count first less only
  some_at i [] n = absurd (n refl)
  some_at i (true ∷ bs) n =
      let z : i ≡ i + 0 = omega arith in
      λ k. t (z k) || some_of t (suc i) (sym (less_nil bs) k)
  some_at i (false ∷ bs) n =
      let e : suc i + first bs ≡ i + suc (first bs) = omega arith in
      some_at (suc i) bs (λ z. n (omega arith)) ∙ ap (λ (j : ℕ). t j || some_of t (suc i) (less bs (only (first bs)))) e

  pub some_next : (a : List Bool) → (count a ≡ 0 → ⊥) → some_of t 0 a ≡ (t (first a) || some_of t 0 (less a (only (first a))))
  some_next a n =
      let e : 0 + first a ≡ first a = omega arith in
      some_at 0 a n ∙ ap (λ (j : ℕ). t j || some_of t 0 (less a (only (first a)))) e

  some-none : (i : ℕ) (a : List Bool) → ((k : ℕ) → dig a k ≡ false) → some_of t i a ≡ false
  unfolding some_of
  some-none i [] h = refl
  some-none i (true ∷ bs) h = absurd (true≢false (h 0))
  some-none i (false ∷ bs) h = some-none (suc i) bs (λ k. h (suc k))

  pub some_end : (a : List Bool) → empty a ≡ true → some_of t 0 a ≡ false
  some_end a e = some-none 0 a (empty-none a e)

  some_fails : (i : ℕ) (a : List Bool) → some_of t i a ≡ false → (j : ℕ) → dig a j ≡ true → t (i + j) ≡ false
  unfolding some_of
  some_fails i [] e j h = absurd (true≢false (sym h))
  some_fails i (true ∷ bs) e zero h =
      let z : i + 0 ≡ i = omega arith in
      ap t z ∙ (or-none (t i) (some_of t (suc i) bs) e).0
  some_fails i (false ∷ bs) e zero h = absurd (true≢false (sym h))
  some_fails i (b ∷ bs) e (suc j) h =
      let s : suc i + j ≡ i + suc j = omega arith in
      ap t (sym s) ∙ some_fails (suc i) bs (or-none (b && t i) (some_of t (suc i) bs) e).1 j h

  pub some_not : (a : List Bool) → some_of t 0 a ≡ false → (j : ℕ) → dig a j ≡ true → t j ≡ false
  some_not a e j h =
      let s : 0 + j ≡ j = omega arith in
      ap t (sym s) ∙ some_fails 0 a e j h

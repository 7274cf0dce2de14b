-- A set that grows by steps, one for each number of another set: what is left of the other has the whole answer.
use mathlib.Core.Bool.{Bool, true}
use mathlib.Core.Path.{◌≡◌, refl, sym, ap, subst, ◌∙◌}
use mathlib.Core.List.{List, [], ◌∷◌}
use Prim.Native.Nat.{ℕ, ◌<◌}
use native.Mathlib.Omega.{arith}
use Rattle.lists.proofs.Truth.{and_left}
use Rattle.sets.specs.Word.{dig, count, less, only, Sub}
use Rattle.sets.specs.Kinds.{First}
use Rattle.sets.specs.Sets.{Is, size, one_word}
use Rattle.sets.specs.declared.Set.{Set}
use Rattle.sets.proofs.Digits.{dig-less}
use Rattle.sets.proofs.Sets.{size_is}
use Rattle.fast_tables.specs.Words.{ones}
use Rattle.fast_tables.proofs.Ones.{ones_none, ones-first}

-- one step after the other
unfoldable pub folded : (ℕ → List Bool → List Bool) → List ℕ → List Bool → List Bool
folded step [] s = s
folded step (x ∷ xs) s = folded step xs (step x s)

module _ (m : ℕ) (step : ℕ → List Bool → List Bool) (all : List Bool) (low : (k : ℕ) → dig all k ≡ true → k < m) where
  -- of the numbers in `all` those in `rest` are left, and `set` has what the others made
  pub record Left (answer : List Bool) (rest set : Set) : Type 0 where
    pub rest_now : List Bool
    pub rest_is : Is rest rest_now
    pub known : Sub rest_now all
    pub set_now : List Bool
    pub set_is : Is set set_now
    pub same : folded step (ones m rest_now) set_now ≡ answer

  pub left-start : {rest set : Set} (s : List Bool) → Is rest all → Is set s → Left (folded step (ones m all) s) rest set
  left-start s r i = record { rest_now = all; rest_is = r; known = λ k t. t; set_now = s; set_is = i; same = refl }

module _ {m : ℕ} {step : ℕ → List Bool → List Bool} {all : List Bool} {low : (k : ℕ) → dig all k ≡ true → k < m} {answer : List Bool}
    {rest set : Set} (l : Left m step all low answer rest set) where
  pub left_end : size rest ≡ 0 → Is set answer
  unfolding folded
  left_end z =
      let none = ones_none m l.rest_now (sym (size_is l.rest_is) ∙ z) in
      subst (Is set) (sym (ap (λ (xs : List ℕ). folded step xs l.set_now) none) ∙ l.same) l.set_is

  -- the lowest that is left is next
  module _ {x : ℕ} {rest' : Set} (p : First one_word rest rest' x) where
    pub left-known : dig all x ≡ true
    left-known = l.known x (p.lowest.there l.rest_now l.rest_is)

    pub left-next : {set' : Set} → ((s : List Bool) → Is set s → Is set' (step x s)) → Left m step all low answer rest' set'
    unfolding folded
    left-next more =
        let e = p.lowest.same l.rest_now l.rest_is in
        let some : count l.rest_now ≡ 0 → ⊥ = λ z. omega (arith, p.some, size_is l.rest_is) in
        record {
          rest_now = less l.rest_now (only x);
          rest_is = p.dropped.same l.rest_now l.rest_is;
          known = λ k d. l.known k (and_left (dig l.rest_now k) _ (sym (dig-less l.rest_now (only x) k) ∙ d));
          set_now = step x l.set_now;
          set_is = more l.set_now l.set_is;
          same =
              (λ i. folded step (ones m (less l.rest_now (only (e i)))) (step (e i) l.set_now))
              ∙ sym (ap (λ (xs : List ℕ). folded step xs l.set_now) (ones-first m l.rest_now some (λ k d. low k (l.known k d))))
              ∙ l.same;
        }

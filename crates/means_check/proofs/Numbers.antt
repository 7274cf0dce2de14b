-- Searches, the number of a face, and a mask from the numbers.
use mathlib.Core.Path.{◌≡◌, refl, sym, subst, ◌∙◌}
use mathlib.Core.Bool.{Bool, true, false}
use mathlib.Core.Logic.{◌⊎◌, inl, inr}
use mathlib.Core.Option.{none}
use mathlib.Core.List.{List, [], ◌∷◌, map}
use Prim.Native.Nat.{ℕ, zero, suc, ◌+◌, ◌≤◌, ◌<◌}
use native.Mathlib.Omega.{arith}
use native.Mathlib.Decide.{dec_lt}
use lib.Dec.{eqb}
use lib.ListN.{length, get_or, get_or-eq_default}
use borrow.Author.Tests.{eqb-true, eq-eqb}
use Rattle.lists.specs.Lists.{find, from, upto, lowest, member, same_list}
use Rattle.lists.proofs.Truth.{and_left, and_right, and_both}
use Rattle.lists.proofs.Places.{made_length, made_at}
use Rattle.sets.specs.Word.{dig, first}
use Rattle.sets.proofs.Digits.{never}
use Rattle.paper.specs.Loops.{Loop, loop_at, flipped}
use Rattle.paper.specs.Verdict.{onward, normal_form, number_in, mask_of}
use Rattle.means_loops.specs.Shape.{Normal}
use Rattle.means_solid.specs.Named.{SameRing}
use Rattle.means_loops.proofs.Lowest.{normal_on, normal_back, on_normal, back_normal}

-- ---- searches

pub same_yes : (a b : List ℕ) → same_list a b ≡ true → a ≡ b
unfolding same_list
same_yes [] [] e = refl
same_yes [] (y ∷ b) e = never (sym e)
same_yes (x ∷ a) [] e = never (sym e)
same_yes (x ∷ a) (y ∷ b) e =
    let p : x ≡ y = eqb-true x y (and_left (eqb x y) (same_list a b) e) in
    let q : a ≡ b = same_yes a b (and_right (eqb x y) (same_list a b) e) in
    cc

pub same_is : (a : List ℕ) → same_list a a ≡ true
unfolding same_list
same_is [] = refl
same_is (x ∷ a) = and_both (eq-eqb x x refl) (same_is a)

module _ (p : Loop → Bool) where
  first_hit : (cs : List Loop) → first (map p cs) < length cs → p (loop_at cs (first (map p cs))) ≡ true
  unfolding first
  first_hit [] h = absurd (omega arith)
  first_hit (c ∷ cs) h = go (p c) refl h (first_hit cs)
    where
      go : (b : Bool) → p c ≡ b → first (b ∷ map p cs) < suc (length cs)
          → (first (map p cs) < length cs → p (loop_at cs (first (map p cs))) ≡ true)
          → p (get_or (c ∷ cs) (first (b ∷ map p cs)) []) ≡ true
      go true e k r = e
      go false e k r = r (omega arith)

  first_some : (cs : List Loop) (k : ℕ) → k < length cs → p (loop_at cs k) ≡ true → first (map p cs) < length cs
  unfolding first
  first_some [] k h e = absurd (omega arith)
  first_some (c ∷ cs) k h e = go (p c) refl k h e (first_some cs)
    where
      go : (b : Bool) → p c ≡ b → (k : ℕ) → k < suc (length cs) → p (get_or (c ∷ cs) k []) ≡ true
          → ((k : ℕ) → k < length cs → p (loop_at cs k) ≡ true → first (map p cs) < length cs)
          → first (b ∷ map p cs) < suc (length cs)
      go true q k h e r = omega arith
      go false q zero h e r = never (sym e ∙ q)
      go false q (suc k) h e r = omega (arith, r k (omega arith) e)

-- nothing passes: the search finds nothing
module _ (p : ℕ → Bool) where
  none_from : (m i : ℕ) → ((k : ℕ) → i ≤ k → k < i + m → p k ≡ false) → find p (from i m) ≡ none
  unfolding find from
  none_from zero i h = refl
  none_from (suc m) i h = rw (h i (omega arith) (omega arith)) (none_from m (suc i) (λ k a b. h k (omega arith) (omega arith)))

  pub none-lowest : (n : ℕ) → ((k : ℕ) → k < n → p k ≡ false) → lowest p n ≡ none
  unfolding lowest upto
  none-lowest n h = none_from n 0 (λ k a b. h k (omega arith))

-- ---- the number of a face

pub number_at : (cs : List Loop) (f : List ℕ) → number_in cs f < length cs → normal_form f ≡ loop_at cs (number_in cs f)
unfolding number_in
number_at cs f h =
    same_yes (normal_form f) (loop_at cs (first (map (same_list (normal_form f)) cs))) (first_hit (same_list (normal_form f)) cs h)

pub number_in_lem : (cs : List Loop) (f : List ℕ) (k : ℕ) → k < length cs → normal_form f ≡ loop_at cs k → number_in cs f < length cs
unfolding number_in
number_in_lem cs f k h e =
    first_some (same_list (normal_form f)) cs k h (subst (λ (l : List ℕ). same_list (normal_form f) l ≡ true) e (same_is (normal_form f)))

-- a face has a number just where it is one of the candidates, from some start and in some direction
pub is_candidate : (cs : List Loop) (f : List ℕ) → number_in cs f < length cs
    → (k : ℕ) × (k < length cs) × (SameRing (loop_at cs k) f ⊎ SameRing (flipped (loop_at cs k)) f)
is_candidate cs f h = (number_in cs f, h, go (onward f) refl)
  where
    go : (b : Bool) → onward f ≡ b → SameRing (loop_at cs (number_in cs f)) f ⊎ SameRing (flipped (loop_at cs (number_in cs f))) f
    go true e = inl (subst (λ (l : List ℕ). SameRing l f) (number_at cs f h) (normal_on f e))
    go false e = inr (subst (λ (l : List ℕ). SameRing (flipped l) f) (number_at cs f h) (normal_back f e))

pub candidate_is : (cs : List Loop) (f : List ℕ) (k : ℕ) → k < length cs → Normal (loop_at cs k)
    → SameRing (loop_at cs k) f ⊎ SameRing (flipped (loop_at cs k)) f → number_in cs f < length cs
candidate_is cs f k h n (inl s) = number_in_lem cs f k h (on_normal (loop_at cs k) n f s)
candidate_is cs f k h n (inr s) = number_in_lem cs f k h (back_normal (loop_at cs k) n f s)

-- ---- a mask from the numbers

pub row_length : (n : ℕ) (ks : List ℕ) → length (mask_of n ks) ≡ n
unfolding mask_of
row_length n ks = made_length (λ k. member k ks) n

pub row-at : (n : ℕ) (ks : List ℕ) (k : ℕ) → k < n → dig (mask_of n ks) k ≡ member k ks
unfolding mask_of
row-at n ks k h = made_at (λ j. member j ks) n k false h

pub row_yes : (n : ℕ) (ks : List ℕ) (k : ℕ) → dig (mask_of n ks) k ≡ true → (k < n) × (member k ks ≡ true)
row_yes n ks k e = go (dec_lt k n)
  where
    go : Dec (k < n) → (k < n) × (member k ks ≡ true)
    go (yes h) = (h, sym (row-at n ks k h) ∙ e)
    go (no h) = never (sym e ∙ get_or-eq_default (mask_of n ks) false (omega (arith, row_length n ks)))

pub row_is : (n : ℕ) (ks : List ℕ) (k : ℕ) → k < n → member k ks ≡ true → dig (mask_of n ks) k ≡ true
row_is n ks k h e = row-at n ks k h ∙ e

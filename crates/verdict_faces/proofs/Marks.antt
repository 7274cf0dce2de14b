-- A mask from numbers that come one by one: one number more, and one face more of those that pass.
use mathlib.Core.Path.{◌≡◌, refl, sym, ap, subst, ◌∙◌}
use mathlib.Core.Bool.{Bool, true, false, ◌||◌}
use mathlib.Core.List.{List, [], ◌∷◌, ◌++◌, map, map-append, append-nil}
use Prim.Native.Nat.{ℕ, suc, ◌+◌, ◌≤◌, ◌<◌}
use native.Mathlib.Omega.{arith}
use lib.ListN.{length, get_or, take, replicate, length-replicate, get_or-replicate}
use lib.Seq.{ext_get_or}
use Rattle.lists.specs.Lists.{keep, filter, member}
use Rattle.lists.proofs.Places.{take_more}
use Rattle.sets.specs.Word.{either, only}
use Rattle.sets.specs.Sets.{wides, Wide}
use Rattle.sets.proofs.Digits.{length_only, dig-either}
use Rattle.sets.proofs.Ones.{only_is}
use Rattle.sets.proofs.Laws.{none-all}
use Rattle.sets.proofs.Sets.{wides_laws}
use Rattle.paper.specs.Numbers.{most_candidates}
use Rattle.paper.specs.Verdict.{mask_of}
use Rattle.fast_search.proofs.Sets.{member_more}
use Rattle.means_check.proofs.Numbers.{row_length, row-at}

-- ---- no number, and one more

member-none : (k : ℕ) → member k [] ≡ false
unfolding member
member-none k = refl

-- no face: no mark
pub mark-none : {x : Wide} (n : ℕ) → n ≤ most_candidates → wides.Is x [] → wides.Is x (mask_of n [])
mark-none {x} n h i =
    subst (wides.Is x)
    (ext_get_or false (replicate n false) (mask_of n []) (length-replicate n false ∙ sym (row_length n []))
    (λ k l.
    let m : k < n = omega (arith, length-replicate n false) in
    get_or-replicate n k false false m ∙ sym (row-at n [] k m ∙ member-none k)))
    (none-all wides_laws n h i)

either_length : (a b : List Bool) → length b ≤ length a → length (either a b) ≡ length a
unfolding either
either_length [] [] h = refl
either_length [] (y ∷ b) h = absurd (omega arith)
either_length (x ∷ a) [] h = refl
either_length (x ∷ a) (y ∷ b) h = ap suc (either_length a b (omega arith))

mask_more : (n : ℕ) (ks : List ℕ) (k : ℕ) → k < n → either (mask_of n ks) (only k) ≡ mask_of n (ks ++ k ∷ [])
mask_more n ks k h =
    let a = mask_of n ks in
    let l : length (either a (only k)) ≡ n = either_length a (only k) (omega (arith, row_length n ks, length_only k)) ∙ row_length n ks in
    ext_get_or false (either a (only k)) (mask_of n (ks ++ k ∷ [])) (l ∙ sym (row_length n (ks ++ k ∷ [])))
    (λ i m.
    let j : i < n = omega (arith, l) in
    dig-either a (only k) i ∙ (λ t. row-at n ks i j t || only_is k i t) ∙ sym (row-at n (ks ++ k ∷ []) i j ∙ member_more i ks k))

module _ {x y : Wide} (n : ℕ) (k : ℕ) (h : k < n) (w : (a : List Bool) → wides.Is x a → wides.Is y (either a (only k))) where
  pub mark_more : (ks : List ℕ) → wides.Is x (mask_of n ks) → wides.Is y (mask_of n (ks ++ k ∷ []))
  mark_more ks i = subst (wides.Is y) (mask_more n ks k h) (w (mask_of n ks) i)

-- ---- those of a list that pass, one element more

module _ {A : Type 0} (p : A → Bool) where
  filter_more : (xs : List A) (x : A) → filter p (xs ++ x ∷ []) ≡ filter p xs ++ keep (p x) x []
  unfolding filter keep
  filter_more [] x = refl
  filter_more (y ∷ xs) x = go (p y) (filter_more xs x)
    where
      go : (b : Bool) → filter p (xs ++ x ∷ []) ≡ filter p xs ++ keep (p x) x []
          → keep b y (filter p (xs ++ x ∷ [])) ≡ keep b y (filter p xs) ++ keep (p x) x []
      go true e = ap (λ (l : List A). y ∷ l) e
      go false e = e

  module _ (g : A → ℕ) (fs : List A) (i : ℕ) (d : A) (h : i < length fs) where
    abbrev made : ℕ → List ℕ
    made j = map g (filter p (take j fs))

    all_more : made (i + 1) ≡ made i ++ map g (keep (p (get_or fs i d)) (get_or fs i d) [])
    all_more =
        ap (λ (l : List A). map g (filter p l)) (take_more fs i d h) ∙ ap (map g) (filter_more (take i fs) (get_or fs i d))
        ∙ map-append g (filter p (take i fs)) (keep (p (get_or fs i d)) (get_or fs i d) [])

    -- it passes, or not
    pub made_more : p (get_or fs i d) ≡ true → made i ++ g (get_or fs i d) ∷ [] ≡ made (i + 1)
    unfolding keep
    made_more e = sym (all_more ∙ ap (λ (b : Bool). made i ++ map g (keep b (get_or fs i d) [])) e)

    pub made-less : p (get_or fs i d) ≡ false → made i ≡ made (i + 1)
    unfolding keep
    made-less e = sym (all_more ∙ ap (λ (b : Bool). made i ++ map g (keep b (get_or fs i d) [])) e ∙ append-nil (made i))

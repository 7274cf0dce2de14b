-- A `while` that looks at a list's elements in turn and stops at the first that a test picks. It keeps `Left`: the answer for what is
-- left is the whole answer. The four laws are for any question that such an element settles: `any`, `all`, `find` and `anyTrue` are,
-- over any list, over the numbers below n, and over the sides of a ring (in Sides).
use mathlib.Core.Path.{◌≡◌, refl, ap, ◌∙◌}
use mathlib.Core.Bool.{Bool, true, false, not, ◌||◌, ◌&&◌, cond}
use mathlib.Core.Option.{none, some}
use mathlib.Core.List.{List, [], ◌∷◌}
use Prim.Native.Nat.{ℕ, ◌+◌, ◌≤◌, ◌<◌}
use native.Mathlib.Omega.{arith}
use borrow.Author.Tests.{not-true, not-false}
use lib.ListN.{length, drop, get_or, drop_of_length-le}
use Rattle.lists.specs.Lists.{any, all, find, any_true, upto, lowest}
use Rattle.lists.proofs.Places.{drop_more, upto_length, upto-at}

-- the first element that p picks settles q: there it is `hit` of the element, and `miss` where p picks none
pub record Search {A R : Type 0} (p : A → Bool) (q : List A → R) (hit : A → R) (miss : R) : Type 0 where
  pub at-end : q [] ≡ miss
  pub at_hit : (x : A) (xs : List A) → p x ≡ true → q (x ∷ xs) ≡ hit x
  pub at_miss : (x : A) (xs : List A) → p x ≡ false → q (x ∷ xs) ≡ q xs

abbrev pub Left : {A R : Type 0} → (List A → R) → List A → ℕ → Type 0
Left q l i = q l ≡ q (drop i l)

module _ {A R : Type 0} {p : A → Bool} {q : List A → R} {hit : A → R} {miss : R} (s : Search p q hit miss) (l : List A) (i : ℕ) where
  pub search_hit : (d : A) → i < length l → Left q l i → p (get_or l i d) ≡ true → q l ≡ hit (get_or l i d)
  search_hit d h e t = e ∙ ap q (drop_more l i d h) ∙ s.at_hit (get_or l i d) (drop (i + 1) l) t

  pub search_miss : (d : A) → i < length l → Left q l i → p (get_or l i d) ≡ false → Left q l (i + 1)
  search_miss d h e t = e ∙ ap q (drop_more l i d h) ∙ s.at_miss (get_or l i d) (drop (i + 1) l) t

  pub search-end : length l ≤ i → Left q l i → q l ≡ miss
  search-end h e = e ∙ ap q (drop_of_length-le l h) ∙ s.at-end

-- ---- the questions

module _ {A : Type 0} (p : A → Bool) where
  pub any-search : Search p (any p) (λ x. true) false
  unfolding any
  any-search = record {
    at-end = refl;
    at_hit = λ x xs t. ap (λ (b : Bool). b || any p xs) t;
    at_miss = λ x xs t. ap (λ (b : Bool). b || any p xs) t;
  }

  pub all-search : Search (λ x. not (p x)) (all p) (λ x. false) true
  unfolding all
  all-search = record {
    at-end = refl;
    at_hit = λ x xs t. ap (λ (b : Bool). b && all p xs) (not-true (p x) t);
    at_miss = λ x xs t. ap (λ (b : Bool). b && all p xs) (not-false (p x) t);
  }

  pub find-search : Search p (find p) some none
  unfolding find
  find-search = record {
    at-end = refl;
    at_hit = λ x xs t. ap (λ (b : Bool). cond b (some x) (find p xs)) t;
    at_miss = λ x xs t. ap (λ (b : Bool). cond b (some x) (find p xs)) t;
  }

pub any_true-search : Search (λ b. b) any_true (λ b. true) false
unfolding any_true
any_true-search = record {
  at-end = refl;
  at_hit = λ b bs t. ap (λ (c : Bool). c || any_true bs) t;
  at_miss = λ b bs t. ap (λ (c : Bool). c || any_true bs) t;
}

-- ---- over the numbers below n

module _ {R : Type 0} {p : ℕ → Bool} {q : List ℕ → R} {hit : ℕ → R} {miss : R} (s : Search p q hit miss) (n i : ℕ) where
  pub below_hit : i < n → Left q (upto n) i → p i ≡ true → q (upto n) ≡ hit i
  below_hit h e t =
      search_hit s (upto n) i 0 (omega (arith, upto_length n)) e (ap p (upto-at n i h) ∙ t) ∙ ap hit (upto-at n i h)

  pub below_miss : i < n → Left q (upto n) i → p i ≡ false → Left q (upto n) (i + 1)
  below_miss h e t = search_miss s (upto n) i 0 (omega (arith, upto_length n)) e (ap p (upto-at n i h) ∙ t)

  pub below_end : n ≤ i → Left q (upto n) i → q (upto n) ≡ miss
  below_end h e = search-end s (upto n) i (omega (arith, upto_length n)) e

-- ---- the lowest number below n that p picks

module _ (p : ℕ → Bool) (n i : ℕ) where
  abbrev pub LowestLeft : Type 0
  LowestLeft = Left (find p) (upto n) i

  pub lowest_hit : i < n → LowestLeft → p i ≡ true → lowest p n ≡ some i
  unfolding lowest
  lowest_hit h e t = below_hit (find-search p) n i h e t

  pub lowest-end : n ≤ i → LowestLeft → lowest p n ≡ none
  unfolding lowest
  lowest-end h e = below_end (find-search p) n i h e

pub lowest_start : (p : ℕ → Bool) (n : ℕ) → LowestLeft p n 0
lowest_start p n = refl

pub lowest_miss : (p : ℕ → Bool) (n i : ℕ) → i < n → LowestLeft p n i → p i ≡ false → LowestLeft p n (i + 1)
lowest_miss p n i h e t = below_miss (find-search p) n i h e t

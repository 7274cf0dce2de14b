-- The items of a book by what it begins with.
use Rattle.std.proofs.Common.{◌≡◌, ℕ, zero, suc, ◌+◌, ◌*◌, ◌≤◌, ◌<◌, List, [], ◌∷◌, arith, cond, leb, length, take, drop, refl, sym, ap, ◌∙◌, length-drop}
use borrow.Author.Tests.{le-leb, lt-leb}
use Rattle.std.specs.Prelude.{Option, Some, None, MatchOption}
use Rattle.std.specs.List.{IsSplitAt}
use Rattle.trial.specs.Items.{items_within, items}

-- it makes no difference how many are asked for, once they are as many as there are bytes
enough : (j k : ℕ) (book : List ℕ) → length book ≤ j → length book ≤ k → items_within j book ≡ items_within k book
unfolding items_within
enough zero zero book a b = refl
enough zero (suc k) [] a b = refl
enough zero (suc k) (x ∷ book) a b = absurd (omega arith)
enough (suc j) zero [] a b = refl
enough (suc j) zero (x ∷ book) a b = absurd (omega arith)
enough (suc j) (suc k) [] a b = refl
enough (suc j) (suc k) (high ∷ []) a b = refl
enough (suc j) (suc k) (high ∷ low ∷ behind) a b =
    let n = 256 * high + low in
    let short = length-drop n behind in
    ap (λ (rest : List (List ℕ)). cond (leb n (length behind)) (take n behind ∷ rest) [])
    (enough j k (drop n behind) (omega arith) (omega arith))

pub items-none : (book : List ℕ) → length book ≡ 0 → items book ≡ []
unfolding items_within
items-none [] e = refl
items-none (x ∷ book) e = absurd (omega arith)

pub items-one : {book behind : List ℕ} {high : ℕ} → book ≡ high ∷ behind → length behind ≡ 0 → items book ≡ []
unfolding items_within
items-one {behind = []} p e = ap items p
items-one {behind = x ∷ behind} p e = absurd (omega arith)

-- two bytes, and so many behind them
module _ {book rest behind : List ℕ} {high low size : ℕ} (p : book ≡ high ∷ rest) (q : rest ≡ low ∷ behind) (e : size ≡ 256 * high + low) where
  begins : book ≡ high ∷ low ∷ behind
  begins = p ∙ ap (λ (l : List ℕ). high ∷ l) q

  items-cut : length behind < size → items book ≡ []
  unfolding items_within
  items-cut h = ap items begins ∙ (let l = lt-leb (256 * high + low) (length behind) (omega arith) in rw l)

  items-more : {item left : List ℕ} → size ≤ length behind → item ≡ take size behind → left ≡ drop size behind
      → items book ≡ item ∷ items left
  unfolding items_within
  items-more {item} {left} h f g =
      let n = 256 * high + low in
      let short = length-drop n behind in
      let l = le-leb n (length behind) (omega arith) in
      ap items begins
      ∙ (rw l
      (ap (λ (l : List (List ℕ)). take n behind ∷ l)
      (enough (suc (length behind)) (length (drop n behind)) (drop n behind) (omega arith) (omega arith))))
      ∙ (λ i. take (sym e i) behind ∷ items (drop (sym e i) behind))
      ∙ (λ i. sym f i ∷ items (sym g i))

  pub items-first : {A : Type 0} (front back : A → List ℕ) (r : Option A)
      → MatchOption r (length behind < size) (λ x. IsSplitAt behind size (front x) (back x))
      → MatchOption r (items book ≡ []) (λ x. items book ≡ front x ∷ items (back x))
  items-first front back None h = items-cut h
  items-first front back (Some x) h = items-more h.0 h.1 h.2

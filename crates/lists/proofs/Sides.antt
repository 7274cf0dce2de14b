-- The sides of a ring: side k is f at element k and the one after it, which wraps. For a `while` over the sides.
use mathlib.Core.Path.{◌≡◌, refl, sym, ◌∙◌, ap}
use mathlib.Core.Bool.{Bool, true, false, cond, xor, ◌||◌}
use mathlib.Core.List.{List, [], ◌∷◌, ◌++◌, map}
use mathlib.Core.Logic.{◌⊎◌, inl, inr}
use Prim.Native.Nat.{ℕ, zero, suc, ◌+◌, ◌-◌, ◌≤◌, ◌<◌}
use native.Mathlib.Nat.{le_of_suc-le-suc, not-suc-le-zero, eq-or-lt_of_le}
use native.Mathlib.Numerals.{add-one}
use native.Mathlib.Omega.{arith}
use lib.ListN.{length, take, get_or}
use lib.Seq.{take-length}
use borrow.Author.Tests.{lt-ltb, le-ltb, ltb-true, ltb-false}
use lib.Dec.{ltb}
use Rattle.lists.specs.Lists.{any, sides, sides_from, any_true, odd_true}
use Rattle.lists.specs.Around.{wrap, around}
use Rattle.lists.proofs.Truth.{xor_assoc, xor-false, false_xor}
use Rattle.lists.proofs.Passing.{any_yes, any_is}
use Rattle.lists.proofs.Places.{take_more}
use Rattle.lists.proofs.Search.{Search, Left, search_hit, search_miss, search-end}

-- ---- places of a ring

pub wrap_low : (n j : ℕ) → j < n → wrap n j ≡ j
unfolding wrap
wrap_low n j h = ap (λ (b : Bool). cond b j (j - n)) (lt-ltb j n h)

pub wrap_high : (n j : ℕ) → n ≤ j → wrap n j ≡ j - n
unfolding wrap
wrap_high n j h = ap (λ (b : Bool). cond b j (j - n)) (le-ltb j n h)

pub wrap_cases : (n k : ℕ) → ((k < n) × (wrap n k ≡ k)) ⊎ ((n ≤ k) × (wrap n k ≡ k - n))
wrap_cases n k = go (ltb k n) refl
  where
    go : (b : Bool) → ltb k n ≡ b → ((k < n) × (wrap n k ≡ k)) ⊎ ((n ≤ k) × (wrap n k ≡ k - n))
    go true e = inl (ltb-true k n e, wrap_low n k (ltb-true k n e))
    go false e = inr (ltb-false k n e, wrap_high n k (ltb-false k n e))

pub wrap-below : (n k : ℕ) → k < n + n → wrap n k < n
wrap-below n k h = go (wrap_cases n k)
  where
    go : ((k < n) × (wrap n k ≡ k)) ⊎ ((n ≤ k) × (wrap n k ≡ k - n)) → wrap n k < n
    go (inl p) = omega (arith, p.0, p.1)
    go (inr p) = omega (arith, p.0, p.1)

pub around_low : {A : Type 0} (g : List A) (j : ℕ) (d : A) → j < length g → around g j d ≡ get_or g j d
unfolding around
around_low g j d h = ap (λ (k : ℕ). get_or g k d) (wrap_low (length g) j h)

-- a `while` over a ring's elements that stops at the first which settles the question (it ends by `search-end`)
module _ {A R : Type 0} {p : A → Bool} {q : List A → R} {hit : A → R} {miss : R} (s : Search p q hit miss) (g : List A) (k : ℕ) (e : A)
    (h : k < length g) (l : Left q g k) where
  pub ring_hit : p (around g k e) ≡ true → q g ≡ hit (around g k e)
  ring_hit t = search_hit s g k e h l (ap p (sym (around_low g k e h)) ∙ t) ∙ ap hit (sym (around_low g k e h))

  pub ring_miss : p (around g k e) ≡ false → Left q g (k + 1)
  ring_miss t = search_miss s g k e h l (ap p (sym (around_low g k e h)) ∙ t)

-- ---- the sides

module _ {A B : Type 0} (f : A → A → B) where
  from_length : (a x : A) (ys : List A) → length (sides_from f a x ys) ≡ suc (length ys)
  unfolding sides_from
  from_length a x [] = refl
  from_length a x (y ∷ ys) = ap suc (from_length a y ys)

  from_at : (a x : A) (ys : List A) (k : ℕ) (d : B) (e : A) → k < length ys
      → get_or (sides_from f a x ys) k d ≡ f (get_or (x ∷ ys) k e) (get_or ys k e)
  unfolding sides_from
  from_at a x [] k d e h = absurd (not-suc-le-zero h)
  from_at a x (y ∷ ys) zero d e h = refl
  from_at a x (y ∷ ys) (suc k) d e h = from_at a y ys k d e (le_of_suc-le-suc h)

  from_last : (a x : A) (ys : List A) (d : B) (e : A)
      → get_or (sides_from f a x ys) (length ys) d ≡ f (get_or (x ∷ ys) (length ys) e) a
  unfolding sides_from
  from_last a x [] d e = refl
  from_last a x (y ∷ ys) d e = from_last a y ys d e

  pub sides_length : (g : List A) → length (sides f g) ≡ length g
  unfolding sides
  sides_length [] = refl
  sides_length (a ∷ r) = from_length a a r

  pub sides-at : (g : List A) (k : ℕ) (d : B) (e : A) → k < length g
      → get_or (sides f g) k d ≡ f (around g k e) (around g (k + 1) e)
  unfolding sides around
  sides-at [] k d e h = absurd (not-suc-le-zero h)
  sides-at (a ∷ r) k d e h = go (eq-or-lt_of_le (le_of_suc-le-suc h))
    where
      go : (k ≡ length r) ⊎ (k < length r)
          → get_or (sides_from f a a r) k d ≡ f (around (a ∷ r) k e) (around (a ∷ r) (k + 1) e)
      go (inr p) =
          let u : k ≡ wrap (suc (length r)) k = sym (wrap_low (suc (length r)) k h) in
          let v : suc k ≡ wrap (suc (length r)) (k + 1) = sym (add-one k) ∙ sym (wrap_low (suc (length r)) (k + 1) (omega arith)) in
          from_at a a r k d e p ∙ (λ i. f (get_or (a ∷ r) (u i) e) (get_or (a ∷ r) (v i) e))
      go (inl p) =
          let z : 0 ≡ k + 1 - suc (length r) = omega arith in
          let u : length r ≡ wrap (suc (length r)) k = sym p ∙ sym (wrap_low (suc (length r)) k h) in
          let v : 0 ≡ wrap (suc (length r)) (k + 1) = z ∙ sym (wrap_high (suc (length r)) (k + 1) (omega arith)) in
          ap (λ (j : ℕ). get_or (sides_from f a a r) j d) p ∙ from_last a a r d e
          ∙ (λ i. f (get_or (a ∷ r) (u i) e) (get_or (a ∷ r) (v i) e))

-- the sides as a ring of their own: the one after the last is the first
module _ {A B : Type 0} (f : A → A → B) (g : List A) (k : ℕ) (d : B) (e : A) (two : 2 ≤ length g) where
  pub sides-around : k ≤ length g → around (sides f g) k d ≡ f (around g k e) (around g (k + 1) e)
  unfolding around
  sides-around h = go (eq-or-lt_of_le h)
    where
      go : (k ≡ length g) ⊎ (k < length g) → around (sides f g) k d ≡ f (around g k e) (around g (k + 1) e)
      go (inr p) = around_low (sides f g) k d (omega (arith, sides_length f g)) ∙ sides-at f g k d e p
      go (inl p) =
          let z : wrap (length (sides f g)) k ≡ 0 = wrap_high (length (sides f g)) k (omega (arith, sides_length f g))
          ∙ omega (arith, sides_length f g) in
          let u : wrap (length g) 0 ≡ wrap (length g) k = wrap_low (length g) 0 (omega arith)
          ∙ omega (arith, wrap_high (length g) k (omega arith)) in
          let v : wrap (length g) (0 + 1) ≡ wrap (length g) (k + 1) = wrap_low (length g) 1 (omega arith)
          ∙ omega (arith, wrap_high (length g) (k + 1) (omega arith)) in
          ap (λ (j : ℕ). get_or (sides f g) j d) z ∙ sides-at f g 0 d e (omega arith)
          ∙ (λ i. f (get_or g (u i) e) (get_or g (v i) e))

-- the sides of what h makes of a ring
module _ {A B C : Type 0} (f : B → B → C) (h : A → B) where
  from_map : (a x : A) (ys : List A) → sides_from f (h a) (h x) (map h ys) ≡ sides_from (λ y z. f (h y) (h z)) a x ys
  unfolding sides_from
  from_map a x [] = refl
  from_map a x (y ∷ ys) = ap (λ (l : List C). f (h x) (h y) ∷ l) (from_map a y ys)

  pub sides_map : (g : List A) → sides f (map h g) ≡ sides (λ y z. f (h y) (h z)) g
  unfolding sides
  sides_map [] = refl
  sides_map (a ∷ r) = from_map a a r

-- ---- a `while` over the sides

-- that gathers them: one more, and all of them
module _ {A B : Type 0} (f : A → A → B) (g : List A) (k : ℕ) where
  pub sides_more : (d : B) (e : A) → k < length g
      → take (k + 1) (sides f g) ≡ take k (sides f g) ++ (f (around g k e) (around g (k + 1) e) ∷ [])
  sides_more d e h =
      take_more (sides f g) k d (omega (arith, sides_length f g))
      ∙ ap (λ (b : B). take k (sides f g) ++ (b ∷ [])) (sides-at f g k d e h)

  pub sides_all : k ≡ length g → take k (sides f g) ≡ sides f g
  sides_all h = ap (λ (n : ℕ). take n (sides f g)) (h ∙ sym (sides_length f g)) ∙ take-length (sides f g)

odd_snoc : (xs : List Bool) (b : Bool) → odd_true (xs ++ (b ∷ [])) ≡ xor (odd_true xs) b
unfolding odd_true
odd_snoc [] b = xor-false b ∙ sym (false_xor b)
odd_snoc (x ∷ xs) b = ap (λ (r : Bool). xor x r) (odd_snoc xs b) ∙ sym (xor_assoc x (odd_true xs) b)

pub odd_more : {A : Type 0} (f : A → A → Bool) (g : List A) (k : ℕ) (e : A) → k < length g
    → odd_true (take (k + 1) (sides f g)) ≡ xor (odd_true (take k (sides f g))) (f (around g k e) (around g (k + 1) e))
odd_more f g k e h =
    ap odd_true (sides_more f g k false e h) ∙ odd_snoc (take k (sides f g)) (f (around g k e) (around g (k + 1) e))

-- that stops at the first which settles the question
module _ {A B R : Type 0} {p : B → Bool} {q : List B → R} {hit : B → R} {miss : R} (s : Search p q hit miss) (f : A → A → B) (g : List A)
    (k : ℕ) where
  pub side_hit : (d : B) (e : A) → k < length g → Left q (sides f g) k → p (f (around g k e) (around g (k + 1) e)) ≡ true
      → q (sides f g) ≡ hit (f (around g k e) (around g (k + 1) e))
  side_hit d e h l t =
      search_hit s (sides f g) k d (omega (arith, sides_length f g)) l (ap p (sides-at f g k d e h) ∙ t) ∙ ap hit (sides-at f g k d e h)

  pub side_miss : (d : B) (e : A) → k < length g → Left q (sides f g) k → p (f (around g k e) (around g (k + 1) e)) ≡ false
      → Left q (sides f g) (k + 1)
  side_miss d e h l t = search_miss s (sides f g) k d (omega (arith, sides_length f g)) l (ap p (sides-at f g k d e h) ∙ t)

  pub side_end : length g ≤ k → Left q (sides f g) k → q (sides f g) ≡ miss
  side_end h l = search-end s (sides f g) k (omega (arith, sides_length f g)) l

-- a test at some side
any_true_lem : (bs : List Bool) → any_true bs ≡ any (λ b. b) bs
unfolding any_true any
any_true_lem [] = refl
any_true_lem (b ∷ bs) = ap (λ (r : Bool). b || r) (any_true_lem bs)

module _ {A : Type 0} (z : A) (q : A → A → Bool) (l : List A) where
  pub side_yes : any_true (sides q l) ≡ true → (k : ℕ) × (k < length l) × (q (around l k z) (around l (k + 1) z) ≡ true)
  side_yes e =
      let r = any_yes (λ b. b) false (sides q l) (sym (any_true_lem (sides q l)) ∙ e) in
      let h : r.0 < length l = omega (arith, r.1, sides_length q l) in
      (r.0, h, sym (sides-at q l r.0 false z h) ∙ r.2)

  pub side_is : (k : ℕ) → k < length l → q (around l k z) (around l (k + 1) z) ≡ true → any_true (sides q l) ≡ true
  side_is k h e =
      any_true_lem (sides q l) ∙ any_is (λ b. b) false (sides q l) k (omega (arith, sides_length q l)) (sides-at q l k false z h ∙ e)

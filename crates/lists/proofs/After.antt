-- Entries that are written one behind the other, so many for each element of a list.
use mathlib.Core.Path.{◌≡◌, sym, ap, ◌∙◌}
use mathlib.Core.List.{List, [], ◌∷◌, ◌++◌, flat_map, append_assoc, append-nil}
use Prim.Native.Nat.{ℕ, zero, suc, ◌+◌, ◌*◌, ◌≤◌, ◌<◌}
use native.Mathlib.Nat.{mul-suc}
use native.Mathlib.Omega.{arith}
use lib.ListN.{length, get_or, take, drop, length-append, length-drop, get_or-append}
use lib.Seq.{paste, take_at, drop_at, drop-drop, take_all, get_or-append-add}
use Rattle.lists.specs.After.{after}

module _ {A B : Type 0} (f : A → List B) where
  pub each_snoc : (xs : List A) (x : A) → flat_map f (xs ++ x ∷ []) ≡ flat_map f xs ++ f x
  unfolding flat_map
  each_snoc [] x = append-nil (f x)
  each_snoc (y ∷ xs) x = ap (λ (t : List B). f y ++ t) (each_snoc xs x) ∙ sym (append_assoc (f y) (flat_map f xs) (f x))

-- nothing written
pub after_none : {A B : Type 0} (f : A → List B) (k : ℕ) (room : List B) → room ≡ after f k [] room
unfolding flat_map
after_none {A} {B} f k room = let s : 0 ≡ k * 0 = omega arith in ap (λ (n : ℕ). drop n room) s

module _ {A B : Type 0} (f : A → List B) (k : ℕ) (z : A) where
  -- f makes k entries of each element
  abbrev pub Wide : List A → Type 0
  Wide xs = (i : ℕ) → i < length xs → length (f (get_or xs i z)) ≡ k

  pub each_long : (xs : List A) → Wide xs → length (flat_map f xs) ≡ k * length xs
  unfolding flat_map
  each_long [] h = omega arith
  each_long (x ∷ xs) h =
      let n : length (f x) ≡ k = h 0 (omega arith) in
      let m : length (flat_map f xs) ≡ k * length xs = each_long xs (λ i p. h (suc i) (omega arith)) in
      length-append (f x) (flat_map f xs) ∙ omega (arith, n, m, mul-suc k (length xs))

  -- entry j of element i
  pub each_at : (xs : List A) → Wide xs → (i j : ℕ) (e : B) → i < length xs → j < k
      → get_or (flat_map f xs) (k * i + j) e ≡ get_or (f (get_or xs i z)) j e
  unfolding flat_map
  each_at [] h i j e a b = absurd (omega arith)
  each_at (x ∷ xs) h zero j e a b =
      let n : length (f x) ≡ k = h 0 (omega arith) in
      let s : k * 0 + j ≡ j = omega arith in
      ap (λ (t : ℕ). get_or (f x ++ flat_map f xs) t e) s ∙ get_or-append (f x) (flat_map f xs) e j (omega (arith, n, b))
  each_at (x ∷ xs) h (suc i) j e a b =
      let n : length (f x) ≡ k = h 0 (omega arith) in
      let s : k * suc i + j ≡ length (f x) + (k * i + j) = omega (arith, n, mul-suc k i) in
      ap (λ (t : ℕ). get_or (f x ++ flat_map f xs) t e) s ∙ get_or-append-add (f x) (flat_map f xs) (k * i + j) e
      ∙ each_at xs (λ t m. h (suc t) (omega arith)) i j e (omega arith) b

  -- ---- in a room
  module _ (xs : List A) (wide : Wide xs) (room : List B) where
    rest : drop (k * length xs) (after f k xs room) ≡ drop (k * length xs) room
    rest = drop_at (flat_map f xs) (drop (k * length xs) room) (k * length xs) (each_long xs wide)

    -- as long as it was
    pub after_long : k * length xs ≤ length room → length (after f k xs room) ≡ length room
    after_long h =
        length-append (flat_map f xs) (drop (k * length xs) room)
        ∙ omega (arith, each_long xs wide, length-drop (k * length xs) room)

    -- written again, it is the same
    pub after-again : after f k xs (after f k xs room) ≡ after f k xs room
    after-again = ap (λ (t : List B). flat_map f xs ++ t) rest

    pub after-at : (i j : ℕ) (e : B) → i < length xs → j < k → k * i + j < k * length xs
        → get_or (after f k xs room) (k * i + j) e ≡ get_or (f (get_or xs i z)) j e
    after-at i j e a b c =
        get_or-append (flat_map f xs) (drop (k * length xs) room) e (k * i + j) (omega (arith, each_long xs wide, c))
        ∙ each_at xs wide i j e a b

    -- one element more
    pub after_more : (x : A) → length (f x) ≡ k → paste (after f k xs room) (k * length xs) (f x) k ≡ after f k (xs ++ x ∷ []) room
    after_more x n =
        let p : take (k * length xs) (after f k xs room) ≡ flat_map f xs
        = take_at (flat_map f xs) (drop (k * length xs) room) (k * length xs) (each_long xs wide) in
        let q : take k (f x) ≡ f x = take_all k (f x) (omega (arith, n)) in
        let r : drop (k * length xs + k) (after f k xs room) ≡ drop (k * length xs + k) room
        = sym (drop-drop k (k * length xs) (after f k xs room)) ∙ ap (drop k) rest ∙ drop-drop k (k * length xs) room in
        let s : k * length xs + k ≡ k * length (xs ++ x ∷ [])
        = omega (arith, mul-suc k (length xs), ap (λ (t : ℕ). k * t) (length-append xs (x ∷ []))) in
        (λ i. p i ++ q i ++ r i) ∙ (λ i. sym (each_snoc f xs x) i ++ drop (s i) room)

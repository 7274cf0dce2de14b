-- How an array is filled: what a store just behind the front makes of it, and the front again.
use mathlib.Core.Path.{◌≡◌, refl, sym, ap, ap₂, ◌∙◌}
use mathlib.Core.List.{List, [], ◌∷◌, ◌++◌}
use Prim.Native.Nat.{ℕ, zero, suc, ◌+◌, ◌-◌, ◌≤◌, ◌<◌}
use native.Mathlib.Nat.{zero-add, suc-add}
use native.Mathlib.Omega.{arith}
use lib.ListN.{length, set, replicate, length-append, length-replicate, take, drop}
use lib.Seq.{set_at, append_snoc, take_at, take_all, drop-append-add, paste}
use Rattle.pack.specs.Fill.{padded}

module _ {A : Type 0} where
  pub padded-none : (n : ℕ) (z : A) → replicate n z ≡ padded [] n z
  unfolding padded
  padded-none n z =
      let e : n - 0 ≡ n = omega arith in
      rw e refl

  -- a store just behind xs
  pub padded_more : (xs : List A) (n i : ℕ) (v z : A) → length xs ≡ i → i < n
      → set (padded xs n z) i v ≡ padded (xs ++ (v ∷ [])) n z
  unfolding padded
  padded_more xs n i v z l h =
      let d : n - length xs ≡ suc (n - (length xs + 1)) = omega arith in
      let e : length (xs ++ (v ∷ [])) ≡ length xs + 1 = length-append xs (v ∷ []) in
      rw (e, d) (set_at xs z (replicate (n - (length xs + 1)) z) v i l
      ∙ sym (append_snoc xs v (replicate (n - (length xs + 1)) z)))

  pub length-padded : (xs : List A) (n : ℕ) (z : A) → length xs ≤ n → length (padded xs n z) ≡ n
  unfolding padded
  length-padded xs n z h = length-append xs (replicate (n - length xs) z) ∙ rw length-replicate (omega arith)

  -- the front again
  pub take_padded : (xs : List A) (n i : ℕ) (z : A) → length xs ≡ i → take i (padded xs n z) ≡ xs
  unfolding padded
  take_padded xs n i z l = take_at xs (replicate (n - length xs) z) i l

  drop-replicate : (m k : ℕ) (z : A) → drop m (replicate (m + k) z) ≡ replicate k z
  drop-replicate zero k z = rw zero-add refl
  drop-replicate (suc m) k z = rw suc-add (drop-replicate m k z)

  -- a copy of ys just behind xs
  pub padded_paste : (xs ys : List A) (n i m : ℕ) (z : A) → length xs ≡ i → length ys ≡ m → i + m ≤ n
      → paste (padded xs n z) i ys m ≡ padded (xs ++ ys) n z
  unfolding padded
  padded_paste xs ys n i m z hx hy h =
      let r = replicate (n - length xs) z in
      let d : n - length xs ≡ m + (n - (i + m)) = omega arith in
      let e : n - length (xs ++ ys) ≡ n - (i + m) = omega (arith, length-append xs ys) in
      let a : drop (i + m) (xs ++ r) ≡ replicate (n - (i + m)) z =
      rw (← hx) (drop-append-add xs r m) ∙ ap (λ (k : ℕ). drop m (replicate k z)) d ∙ drop-replicate m (n - (i + m)) z in
      ap₂ (λ (t u : List A). t ++ u ++ drop (i + m) (xs ++ r)) (take_at xs r i hx) (take_all m ys (omega arith))
      ∙ ap (λ (t : List A). xs ++ ys ++ t) a
      ∙ ap (λ (k : ℕ). xs ++ ys ++ replicate k z) (sym e)

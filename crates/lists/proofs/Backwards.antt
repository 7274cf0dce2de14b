-- The elements of a list backwards.
use mathlib.Core.Path.{◌≡◌, refl, sym, ap, ◌∙◌}
use mathlib.Core.Bool.{Bool, true, false}
use mathlib.Core.List.{List, [], ◌∷◌, ◌++◌, reverse, reverse-cons}
use Prim.Native.Nat.{ℕ, suc, ◌-◌, ◌<◌}
use native.Mathlib.Omega.{arith}
use borrow.Author.Tests.{ltb-true, ltb-false}
use lib.Dec.{ltb}
use lib.ListN.{length, get_or, length-reverse, get_or-append}
use lib.Seq.{get_or_at}

module _ {A : Type 0} (d : A) where
  pub get_d_reverse : (xs : List A) (j : ℕ) → j < length xs → get_or (reverse xs) j d ≡ get_or xs (length xs - suc j) d
  get_d_reverse [] j h = absurd (omega arith)
  get_d_reverse (x ∷ xs) j h = ap (λ (t : List A). get_or t j d) (reverse-cons x xs) ∙ go (ltb j (length xs)) refl (λ k. get_d_reverse xs j k)
    where
      go : (b : Bool) → ltb j (length xs) ≡ b → (j < length xs → get_or (reverse xs) j d ≡ get_or xs (length xs - suc j) d)
          → get_or (reverse xs ++ (x ∷ [])) j d ≡ get_or (x ∷ xs) (length (x ∷ xs) - suc j) d
      go true t ih =
          let k : j < length xs = ltb-true j (length xs) t in
          let e : length (x ∷ xs) - suc j ≡ suc (length xs - suc j) = omega arith in
          let r : j < length (reverse xs) = omega (arith, length-reverse xs) in
          get_or-append (reverse xs) (x ∷ []) d j r ∙ ih k ∙ sym (ap (λ (n : ℕ). get_or (x ∷ xs) n d) e)
      go false t ih =
          let k : length xs ≡ j = omega (arith, ltb-false j (length xs) t) in
          let e : length (x ∷ xs) - suc j ≡ 0 = omega arith in
          get_or_at (reverse xs) x [] d j (length-reverse xs ∙ k) ∙ sym (ap (λ (n : ℕ). get_or (x ∷ xs) n d) e)

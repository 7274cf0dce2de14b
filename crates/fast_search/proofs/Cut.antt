-- Recording one by one into a table of at most m rows.
use mathlib.Core.Bool.{Bool, true, false}
use mathlib.Core.List.{List, [], ◌∷◌, ◌++◌, append-nil, append_assoc}
use mathlib.Core.Path.{◌≡◌, refl, sym, ap, ◌∙◌}
use Prim.Native.Nat.{ℕ, zero, suc, ◌≤◌, ◌<◌, min}
use native.Mathlib.Omega.{arith}
use lib.Dec.{ltb}
use lib.ListN.{length, take, length-append}
use lib.Seq.{take_all, take-append-le, append_snoc}
use borrow.Author.Tests.{ltb-true, ltb-false}
use Rattle.sets.specs.Word.{count, first, less, only, empty}
use Rattle.fast_search.specs.Rows.{each_of}
use Rattle.fast_search.specs.Cut.{Table, cut_table, recorded, take_in, take_in_all}
use Rattle.fast_search.proofs.Rows.{each_next, each_end}

module _ {A : Type 0} (m : ℕ) where
  -- one more, with room for it: it comes behind the others
  pub table-less : (l : List A) (x : A) → length l < m
      → cut_table m (l ++ x ∷ []) ≡ record { rows = take m l ++ x ∷ []; count = suc (min (suc m) (length l)) }
  table-less l x h =
      let c : min (suc m) (length (l ++ x ∷ [])) ≡ suc (min (suc m) (length l)) = omega (arith, length-append l (x ∷ [])) in
      let r : take m (l ++ x ∷ []) ≡ take m l ++ x ∷ [] = take_all m (l ++ x ∷ []) (omega (arith, length-append l (x ∷ [])))
      ∙ ap (λ (k : List A). k ++ x ∷ []) (sym (take_all m l (omega arith))) in
      λ i. record { rows = r i; count = c i }

  -- the table is full: nothing comes in, and the count is one above
  pub table-over : (l : List A) (x : A) → m ≤ length l → cut_table m (l ++ x ∷ []) ≡ record { rows = take m l; count = suc m }
  table-over l x h =
      let c : min (suc m) (length (l ++ x ∷ [])) ≡ suc m = omega (arith, length-append l (x ∷ [])) in
      λ i. record { rows = take-append-le m l (x ∷ []) h i; count = c i }

  -- the count says it: whatever comes, the table stays as it is
  pub table_full : (l more : List A) → m < min (suc m) (length l) → cut_table m (l ++ more) ≡ cut_table m l
  table_full l more h =
      let c : min (suc m) (length (l ++ more)) ≡ min (suc m) (length l) = omega (arith, length-append l more) in
      λ i. record { rows = take-append-le m l more (omega arith) i; count = c i }

  pub take_in_is : (l : List A) (x : A) → take_in m (cut_table m l) x ≡ cut_table m (l ++ x ∷ [])
  unfolding take_in recorded
  take_in_is l x = go (ltb (min (suc m) (length l)) m) refl
    where
      go : (b : Bool) → ltb (min (suc m) (length l)) m ≡ b → recorded m b (cut_table m l) x ≡ cut_table m (l ++ x ∷ [])
      go true e =
          let h : min (suc m) (length l) < m = ltb-true (min (suc m) (length l)) m e in
          sym (table-less l x (omega arith))
      go false e =
          let h : m ≤ min (suc m) (length l) = ltb-false (min (suc m) (length l)) m e in
          sym (table-over l x (omega arith))

  pub take_all_is : (l xs : List A) → take_in_all m (cut_table m l) xs ≡ cut_table m (l ++ xs)
  unfolding take_in_all
  take_all_is l [] = ap (cut_table m) (sym (append-nil l))
  take_all_is l (x ∷ xs) =
      ap (λ (t : Table A). take_in_all m t xs) (take_in_is l x) ∙ take_all_is (l ++ x ∷ []) xs ∙ ap (cut_table m) (append_snoc l x xs)

  -- all of l, from an empty table: the first m of them, and their number up to one above m
  pub cut_is : (l : List A) → take_in_all m (record { rows = []; count = 0 }) l ≡ record { rows = take m l; count = min (suc m) (length l) }
  cut_is l =
      let c : 0 ≡ min (suc m) 0 = omega arith in
      ap (λ (t : Table A). take_in_all m t l) (λ i. record { rows = nothing m i; count = c i }) ∙ take_all_is [] l
    where
      nothing : (k : ℕ) → ◌≡◌ {A = List A} [] (take k [])
      nothing zero = refl
      nothing (suc k) = refl

-- ---- a `while` over the set digits of a word, that records what f makes of each: `now` is all that was found so far, `left` the digits
-- of the word, and the loop keeps that what is left brings `now` to the whole
module _ {A : Type 0} (f : ℕ → List Bool → List A) where
  abbrev pub Whole : List A → List Bool → List A → Type 0
  Whole now left all = now ++ each_of f 0 left ≡ all

  pub whole-next : (now : List A) (left : List Bool) (all : List A) → (count left ≡ 0 → ⊥) → Whole now left all
      → Whole (now ++ f (first left) (less left (only (first left)))) (less left (only (first left))) all
  whole-next now left all n w =
      append_assoc now (f (first left) (less left (only (first left)))) (each_of f 0 (less left (only (first left))))
      ∙ ap (λ (l : List A). now ++ l) (sym (each_next f left n)) ∙ w

  pub whole-end : (now : List A) (left : List Bool) (all : List A) → empty left ≡ true → Whole now left all → now ≡ all
  whole-end now left all e w = sym (append-nil now) ∙ ap (λ (l : List A). now ++ l) (sym (each_end f left e)) ∙ w

  -- the table is full: it is that of the whole
  pub whole_full : (m : ℕ) (now : List A) (left : List Bool) (all : List A) → m < min (suc m) (length now) → Whole now left all
      → cut_table m now ≡ cut_table m all
  whole_full m now left all h w = sym (table_full m now (each_of f 0 left) h) ∙ ap (cut_table m) w

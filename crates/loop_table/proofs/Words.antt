-- Words of masks, one for each loop: read as the code reads them, and one word more.
use mathlib.Core.Bool.{Bool}
use mathlib.Core.Path.{◌≡◌, refl, sym, ap, ◌∙◌}
use mathlib.Core.List.{List, [], ◌∷◌, ◌++◌, flat_map}
use Prim.Native.Nat.{ℕ, ◌+◌, ◌-◌, ◌*◌, ◌≤◌, ◌<◌}
use native.Mathlib.Omega.{arith}
use lib.ListN.{length, get_or, set, drop}
use lib.Seq.{paste, paste-zero, paste-suc, get_or-append-add, get_or-drop}
use Rattle.lists.proofs.After.{Wide, each_long, after_long, after_more, after-again, after-at}
use Rattle.sets.specs.Word.{word}
use Rattle.sets.specs.Sets.{room, Is, packed_set, mask_at}
use Rattle.paper.specs.Loops.{Loop, loop_at}
use Rattle.loop_table.specs.Tables.{mask_word, words_after, HoldsWords}

module _ (mask : Loop → List Bool) where
  wide : (ls : List Loop) → Wide (mask_word mask) 1 [] ls
  wide ls i h = refl

  -- ---- a list that words were written to holds them
  pub words-held : (ls : List Loop) (words before : List ℕ) → words ≡ words_after mask ls before → HoldsWords mask words ls
  words-held ls words before e = e ∙ sym (ap (words_after mask ls) e ∙ after-again (mask_word mask) 1 [] ls (wide ls) before)

  pub words_kept : (ls : List Loop) (words before : List ℕ) → length ls ≤ length before → words ≡ words_after mask ls before
      → length words ≡ length before
  words_kept ls words before h e = ap length e ∙ after_long (mask_word mask) 1 [] ls (wide ls) before (omega arith)

  -- later words stay
  pub words_later : (ls : List Loop) (words before : List ℕ) → words ≡ words_after mask ls before → (k : ℕ) → length ls ≤ k
      → get_or words k 0 ≡ get_or before k 0
  words_later ls words before e k h =
      let n : length (flat_map (mask_word mask) ls) ≡ 1 * length ls = each_long (mask_word mask) 1 [] ls (wide ls) in
      let at : k ≡ length (flat_map (mask_word mask) ls) + (k - length ls) = omega (arith, n) in
      ap (λ (l : List ℕ). get_or l k 0) e ∙ ap (λ (i : ℕ). get_or (words_after mask ls before) i 0) at
      ∙ get_or-append-add (flat_map (mask_word mask) ls) (drop (1 * length ls) before) (k - length ls) 0
      ∙ get_or-drop (1 * length ls) before (k - length ls) 0 ∙ ap (λ (i : ℕ). get_or before i 0) (omega arith)

  -- one word more
  pub word_more : (ls : List Loop) (l : Loop) (words before : List ℕ) → length ls < length before → words ≡ words_after mask ls before
      → set words (length ls) (word (mask l)) ≡ words_after mask (ls ++ l ∷ []) before
  word_more ls l words before h e =
      let n : length words ≡ length before = words_kept ls words before (omega arith) e in
      let s : length ls ≡ 1 * length ls + 0 = omega arith in
      let w = mask_word mask l in
      (λ i. set (paste-zero words (1 * length ls) w i) (s i) (word (mask l)))
      ∙ paste-suc words (1 * length ls) w 0 0 (omega (arith, n)) (omega arith)
      ∙ ap (λ (t : List ℕ). paste t (1 * length ls) w 1) e
      ∙ after_more (mask_word mask) 1 [] ls (wide ls) before l refl

  -- ---- its words
  module _ (words : List ℕ) (ls : List Loop) (held : HoldsWords mask words ls) (k : ℕ) (h : k < length ls) where
    pub word_is : get_or words k 0 ≡ word (mask (loop_at ls k))
    word_is =
        let e : k ≡ 1 * k + 0 = omega arith in
        ap (λ (i : ℕ). get_or words i 0) e ∙ ap (λ (t : List ℕ). get_or t (1 * k + 0) 0) held
        ∙ after-at (mask_word mask) 1 [] ls (wide ls) words k 0 0 h (omega arith) (omega arith)

    -- so it is the set of the mask
    pub mask_is : length (mask (loop_at ls k)) ≤ room → Is (mask_at words k) (mask (loop_at ls k))
    unfolding packed_set
    mask_is n = record { short = n; words = λ i. record { word = word_is i } }

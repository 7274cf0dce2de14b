-- Loops in a flat table, a row of 13 bytes for each, and masks of loops in a list of words.
use Rattle.std.specs.Prelude.{Bool, List, [], ◌∷◌, ◌≡◌, ℕ}
use Rattle.lists.specs.After.{after}
use Rattle.sets.specs.Word.{word}
use Rattle.paper.specs.Numbers.{row_bytes}
use Rattle.paper.specs.Loops.{Loop, row}

-- a table once the rows of these loops were written to it; a list of words once, of each loop, the word of a mask was
abbrev pub rows_after : List Loop → List ℕ → List ℕ
rows_after = after row row_bytes

abbrev pub mask_word : (Loop → List Bool) → Loop → List ℕ
mask_word mask l = word (mask l) ∷ []

abbrev pub words_after : (Loop → List Bool) → List Loop → List ℕ → List ℕ
words_after mask = after (mask_word mask) 1

-- the table begins with the rows of these loops; the list begins with the words of their masks
abbrev pub HoldsRows : List ℕ → List Loop → Type 0
HoldsRows table ls = table ≡ rows_after ls table

abbrev pub HoldsWords : (Loop → List Bool) → List ℕ → List Loop → Type 0
HoldsWords mask words ls = words ≡ words_after mask ls words

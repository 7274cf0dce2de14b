-- A solid's record in a report: "a bit per taken candidate (candidate 0 lowest), a bit per taken face run against its normal form (the
-- others 0), six volumes". The low word of a set comes first.
use Rattle.std.specs.Prelude.{Bool, List, [], ◌∷◌, ◌++◌, ℕ, zero, suc, ◌*◌, get_or, take, drop}
use Rattle.sets.specs.Word.{word, digits}
use Rattle.paper.specs.Numbers.{set_words, word_bits}

-- n words of a set's digits; the digits of n words from word i of a list on, 0 where there is none
unfoldable pub set_of : ℕ → List Bool → List ℕ
set_of zero bs = []
set_of (suc n) bs = word (take word_bits bs) ∷ set_of n (drop word_bits bs)

unfoldable pub digits_at : ℕ → ℕ → List ℕ → List Bool
digits_at zero i ws = []
digits_at (suc n) i ws = digits word_bits (get_or ws i 0) ++ digits_at n (suc i) ws

-- the taken faces, those of them that are turned, and six volumes: as a record, and of one
unfoldable pub entry : List Bool → List Bool → ℕ → List ℕ
entry taken turned six = set_of set_words taken ++ set_of set_words turned ++ (six ∷ [])

abbrev pub taken_in : List ℕ → List Bool
taken_in ws = digits_at set_words 0 ws

abbrev pub turned_in : List ℕ → List Bool
turned_in ws = digits_at set_words set_words ws

abbrev pub six_in : List ℕ → ℕ
six_in ws = get_or ws (2 * set_words) 0

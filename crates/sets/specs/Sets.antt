-- A set as the code holds it: one word. Contracts say what holds of every list of digits that a set stands for (`Kinds`).
use Rattle.std.specs.Prelude.{Bool, ◌&&◌, ◌||◌, List, ◌≡◌, ℕ, ◌≤◌, eqb, length, get_or, set}
use Rattle.std.specs.Int.Count.{ones}
use Rattle.sets.specs.Word.{word, digits, digit}
use Rattle.sets.specs.Kinds.{Kind}
use Rattle.sets.specs.declared.Set.{Set}

-- how many a set has room for: the width of the word
abbrev pub room : ℕ
room = 64

unfoldable pub packed_set : List Bool → Set
packed_set bs = record { word = word bs }

-- x has the digits bs
pub record Is (x : Set) (bs : List Bool) : Type 0 where
  pub short : length bs ≤ room
  pub words : x ≡ packed_set bs

-- all the digits of its word
unfoldable pub set_digits : Set → List Bool
set_digits x = digits room x.word

-- how many are in it
abbrev pub size : Set → ℕ
size x = ones x.word

-- the set at place k of a list of words
abbrev pub mask_at : List ℕ → ℕ → Set
mask_at words k = record { word = get_or words k 0 }

-- the kind of sets of one word
abbrev pub one_word : Kind
one_word = record { Of = Set; room = room; Is = Is; size = size; at = mask_at }

-- a set of edges or of candidates, and their kind
abbrev pub Wide : Type 0
Wide = Set

abbrev pub wides : Kind
wides = one_word

-- ---- words that are written

-- the words with the set x at place k
abbrev pub with_set : List ℕ → ℕ → Set → List ℕ
with_set words k x = set words k x.word

-- i is in the set at place k, and nothing else is changed
abbrev pub MarkedAt : List ℕ → ℕ → ℕ → List ℕ → Type 0
MarkedAt words k i after = (u w : ℕ) → digit (get_or after u 0) w ≡ (digit (get_or words u 0) w || (eqb u k && eqb w i))

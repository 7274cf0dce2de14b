-- What an answer says, in words, and where they are written.
use Rattle.std.specs.Prelude.{List, ◌∷◌, ◌++◌, ◌≡◌, ℕ, ◌≤◌, length, take, drop}
use Rattle.paper.specs.Conversion.{Converted}
use Rattle.paper.specs.Reading.{conversion_says}
use Rattle.paper.specs.Reading as Paper
use Rattle.export_words.specs.declared.words.Said.{Said}

-- its number, its place, its values
abbrev pub words_said : Paper.Said → List ℕ
words_said s = s.number ∷ s.place ∷ s.values

-- entries written to the start of a lent room, as far as it reaches; later room keeps its contents
abbrev pub onto : {A : Type 0} → List A → List A → List A
onto entries room = take (length room) entries ++ drop (length entries) room

-- the number is returned, and the words are written
pub record Tells (s : Paper.Said) (r : ℕ) (words₀ words : List ℕ) : Type 0 where
  pub number_is : r ≡ s.number
  pub words_are : words ≡ onto (words_said s) words₀

-- ---- with what else was lent

pub record WritesAs (s : Paper.Said) (after : List ℕ) (r : ℕ) (room words₀ words : List ℕ) : Type 0 where
  pub room_is : room ≡ after
  pub tells : Tells s r words₀ words

pub record ConvertsAs (c : Converted) (r : ℕ) (faces solids words₀ words : List ℕ) : Type 0 where
  pub faces_are : faces ≡ c.faces
  pub solids_are : solids ≡ c.solids
  pub tells : Tells (conversion_says c.answer) r words₀ words

-- ---- as the code holds what is said

abbrev pub most_said : ℕ
most_said = 7

pub record Telling (x : Said) : Type 0 where
  pub few : x.count ≤ most_said
  pub long : length x.words ≡ most_said

pub record SaidIs (x : Said) (s : Paper.Said) : Type 0 where
  pub telling : Telling x
  pub are : take x.count x.words ≡ words_said s

-- so told, whatever it is that the words say
abbrev pub ToldBy : Said → ℕ → List ℕ → List ℕ → Type 0
ToldBy x r words₀ words = (s : Paper.Said) → SaidIs x s → Tells s r words₀ words

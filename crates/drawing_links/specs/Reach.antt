-- Sets of a drawing's vertices, as the digits of a word.
use Rattle.std.specs.Prelude.{◌≡◌, Bool, false, ◌||◌, ◌&&◌, List, ℕ, ◌<◌, get_or}
use Rattle.lists.specs.Lists.{any, upto}
use Rattle.sets.specs.Word.{digit}
use Rattle.paper.specs.Drawing.{Wire, joined}

-- the digits of m, for the v vertices, are the row
abbrev pub DigitsAre : ℕ → ℕ → List Bool → Type 0
DigitsAre m v row = (w : ℕ) → w < v → digit m w ≡ get_or row w false

-- n is the set m with the vertices that one edge more leads to
abbrev pub Grown : ℕ → ℕ → Wire → ℕ → Type 0
Grown m v d n = (w : ℕ) → digit n w ≡ (digit m w || any (λ u. digit m u && joined d u w) (upto v))

-- Coordinates that pass 8.
use Rattle.std.specs.Prelude.{false, List, ◌≡◌, ℕ, ℤ, pos, get_or}
use Rattle.paper.specs.Sheet.{far}

-- every coordinate is in range
abbrev pub Near : List ℤ → Type 0
Near xyz = (k : ℕ) → far (get_or xyz k (pos 0)) ≡ false

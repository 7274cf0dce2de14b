-- The three bytes that a field lies within.
use Rattle.std.specs.Prelude.{List, [], ◌∷◌, ℕ, ◌+◌, ◌*◌, ◌/◌, ◌%◌, ◌^◌, get_or}
use Rattle.pack.specs.Bits.{val, run}

-- the bytes q, q + 1 and q + 2 of s; past the end a byte is 0
abbrev pub three : List ℕ → ℕ → List ℕ
three s q = get_or s q 0 ∷ get_or s (q + 1) 0 ∷ get_or s (q + 2) 0 ∷ []

-- the number in them
unfoldable pub window_at : List ℕ → ℕ → ℕ
window_at s q = val (run 8 (three s q))

-- x with the w bits above its k lowest set to those of v
unfoldable pub patched : ℕ → ℕ → ℕ → ℕ → ℕ
patched x k w v = (x / 2 ^ k / 2 ^ w * 2 ^ w + v % 2 ^ w) * 2 ^ k + x % 2 ^ k

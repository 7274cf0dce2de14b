-- An array that is filled from the front over a default.
use Rattle.std.specs.Prelude.{List, ◌++◌, ℕ, ◌-◌, length, replicate}

-- xs in front of defaults, n elements in all
unfoldable pub padded : {A : Type 0} → List A → ℕ → A → List A
padded xs n z = xs ++ replicate (n - length xs) z

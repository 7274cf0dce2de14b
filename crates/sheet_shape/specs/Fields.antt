-- Fields one behind the other in bytes.
use Rattle.std.specs.Prelude.{List, ℕ, ◌+◌, ◌*◌, ◌≤◌, ◌<◌, ◌^◌, length}

-- n fields of w bits each lie in the bytes s from bit i on, and no bit's place is too large for the code
pub record Fields (s : List ℕ) (i w n : ℕ) : Type 0 where
  pub within : i + w * n ≤ length s * 8
  pub small : i + w * n < 2 ^ 32

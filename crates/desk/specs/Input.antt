-- What was read stands at the start of the room.
use Rattle.std.specs.Prelude.{List, Option, Some, None, ◌≡◌, ℕ, ◌≤◌, ◌<◌, length, take}
use Rattle.std.specs.Io.KnownBytes.{Consumes, IsAtEnd}

abbrev pub WithinRoom : List ℕ → Option ℕ → Type 0
WithinRoom room r = (n : ℕ) → r ≡ Some n → n ≤ length room

-- it is what was taken of the input, and where room is left there is no more
abbrev pub TakenFrom : Option (List ℕ) → Option (List ℕ) → List ℕ → Option ℕ → Type 0
TakenFrom old new room (Some n) = (n ≤ length room) × Consumes old new (take n room) × (n < length room → IsAtEnd new)
TakenFrom old new room None = Unit {0}

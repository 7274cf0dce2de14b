-- Entries of any type copied to the start of a lent room.
use Rattle.std.specs.Prelude.{List, ◌++◌, ℕ, ◌≤◌, length, take, drop}

-- the room once the first m entries were copied: later room keeps its contents
abbrev pub copied : {A : Type 0} → ℕ → List A → List A → List A
copied m from room = take m from ++ drop m room

-- m are there and there is room for them
pub record Copies {A : Type 0} (m : ℕ) (from room : List A) : Type 0 where
  pub there : m ≤ length from
  pub fits : m ≤ length room

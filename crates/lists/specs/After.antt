-- A room to which entries are written one behind the other, so many for each element of a list.
use mathlib.Core.List.{List, ◌++◌, flat_map}
use Rattle.std.specs.Prelude.{ℕ, ◌*◌, length, drop}

-- the room once the k entries f x of each element x were written: later room keeps its contents
abbrev pub after : {A B : Type 0} → (A → List B) → ℕ → List A → List B → List B
after f k xs room = flat_map f xs ++ drop (k * length xs) room

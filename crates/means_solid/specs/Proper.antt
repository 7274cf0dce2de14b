-- A closed path of at least three corners, all different.
use Rattle.std.specs.Prelude.{List, ◌≡◌, ℕ, ◌≤◌, ◌<◌, length, get_or}
use Rattle.paper.specs.Loops.{Loop, loop_at}

-- no corner stands twice
abbrev pub Different : Loop → Type 0
Different l = (i j : ℕ) → i < length l → j < length l → get_or l i 0 ≡ get_or l j 0 → i ≡ j

pub record Proper (l : Loop) : Type 0 where
  pub three : 3 ≤ length l
  pub different : Different l

abbrev pub AllProper : List Loop → Type 0
AllProper cs = (k : ℕ) → k < length cs → Proper (loop_at cs k)

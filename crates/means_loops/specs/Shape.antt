-- A loop's normal form, in plain mathematics.
use Rattle.std.specs.Prelude.{ℕ, ◌-◌, ◌≤◌, ◌<◌, length, get_or}
use Rattle.paper.specs.Loops.{Loop}
use Rattle.means_solid.specs.Proper.{Different}

-- "start at the lowest vertex, then go to the lower of its two neighbours"
pub record Normal (l : Loop) : Type 0 where
  pub three : 3 ≤ length l
  pub different : Different l
  pub lowest : (i : ℕ) → 0 < i → i < length l → get_or l 0 0 < get_or l i 0
  pub direction : get_or l 1 0 < get_or l (length l - 1) 0

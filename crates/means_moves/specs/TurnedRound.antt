-- A list of faces with every face turned round.
use Rattle.std.specs.Prelude.{◌≡◌, List, ℕ, ◌<◌, length}
use Rattle.paper.specs.Loops.{Loop, loop_at, flipped}
use Rattle.means_solid.specs.Named.{SameRing}

-- as many faces, and each is the other's the other way round, from any starting corner
pub record AllTurned (fs gs : List Loop) : Type 0 where
  pub as_many : length gs ≡ length fs
  pub each : (i : ℕ) → i < length fs → SameRing (flipped (loop_at fs i)) (loop_at gs i)

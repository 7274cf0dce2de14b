-- A list of faces gs that comes from a list fs by turning, leaving out or doubling faces, in any order, from any starts.
use Rattle.std.specs.Prelude.{◌≡◌, ◌⊎◌, List, ℕ, ◌<◌, length}
use Rattle.paper.specs.Loops.{Loop, loop_at, flipped}
use Rattle.means_solid.specs.Named.{SameRing}
use Rattle.means_check.specs.Bodies.{AmongEither}

-- g is the ring f the other way round
abbrev pub Turned : Loop → Loop → Type 0
Turned f g = SameRing (flipped f) g

pub data Spoiled (fs gs : List Loop) : Type 0 where
  -- a face is turned: all are of fs, one way or the other, and face i is face j of fs the other way round
  face_turned : AmongEither fs gs → (i j : ℕ) → i < length gs → j < length fs → Turned (loop_at fs j) (loop_at gs i) → Spoiled fs gs
  -- all are turned
  all_turned : ((i : ℕ) → i < length gs → (j : ℕ) × (j < length fs) × Turned (loop_at fs j) (loop_at gs i)) → Spoiled fs gs
  -- one is missing: all are of fs, one way or the other, and face j of fs is not among them
  face-missing : AmongEither fs gs → (j : ℕ) → j < length fs → ((i : ℕ) → i < length gs → SameRing (loop_at fs j) (loop_at gs i) → ⊥)
      → Spoiled fs gs
  -- one is doubled, as it is or turned
  face_doubled : (i j : ℕ) → i < length gs → j < length gs → (i ≡ j → ⊥)
      → SameRing (loop_at gs i) (loop_at gs j) ⊎ Turned (loop_at gs i) (loop_at gs j)
      → Spoiled fs gs

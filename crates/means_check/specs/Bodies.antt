-- Bodies: lists of faces, told apart by their directed rings alone.
use Rattle.std.specs.Prelude.{◌≡◌, Bool, ◌⊎◌, List, ℕ, ◌<◌, length}
use Rattle.sets.specs.Word.{dig}
use Rattle.paper.specs.Drawing.{Wire}
use Rattle.paper.specs.Loops.{Loop, loop_at, flipped}
use Rattle.means_solid.specs.Solid.{IsSolid}
use Rattle.means_solid.specs.Named.{SameRing}

-- each face of gs is one of fs, from some start and in its direction
abbrev pub Among : List Loop → List Loop → Type 0
Among fs gs = (i : ℕ) → i < length gs → (j : ℕ) × (j < length fs) × SameRing (loop_at fs j) (loop_at gs i)

-- the same, in any direction
abbrev pub AmongEither : List Loop → List Loop → Type 0
AmongEither fs gs =
    (i : ℕ) → i < length gs
    → (j : ℕ) × (j < length fs) × (SameRing (loop_at fs j) (loop_at gs i) ⊎ SameRing (flipped (loop_at fs j)) (loop_at gs i))

-- no face stands twice
abbrev pub Singly : List Loop → Type 0
Singly fs = (i j : ℕ) → i < length fs → j < length fs → SameRing (loop_at fs i) (loop_at fs j) → i ≡ j

-- "the same body": the same set of directed rings
abbrev pub SameBody : List Loop → List Loop → Type 0
SameBody fs gs = Among fs gs × Among gs fs

-- the drawing has no two solids
abbrev pub OneSolid : Wire → List Loop → Type 0
OneSolid d cs =
    (taken turned taken' turned' : List Bool) (six six' : ℕ) → IsSolid d cs taken turned six → IsSolid d cs taken' turned' six'
    → ((k : ℕ) → dig taken k ≡ dig taken' k) × ((k : ℕ) → dig turned k ≡ dig turned' k)

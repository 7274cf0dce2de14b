-- A reading as a number and a lent double.
use Rattle.std.specs.Prelude.{List, [], ◌∷◌, ◌≡◌, ℕ, ◌≤◌, Float, length}
use Rattle.std.proofs.Math.Option.{Option, none, some}
use Rattle.paper.specs.Numbers.{face_room, solid_room}
use Rattle.paper.specs.Conversion.{Converted}
use Rattle.paper.specs.Reading.{Shown, reading_of, reading_says}
use Rattle.export_words.specs.Words.{onto}

-- the volume, if one is shown
abbrev pub volumes : Option Float → List Float
volumes none = []
volumes (some v) = v ∷ []

-- the number is returned, and a double is written only where a volume is shown
pub record Shows (s : Shown) (n : ℕ) (volume₀ volume : List Float) : Type 0 where
  pub number_is : n ≡ s.number
  pub volume_is : volume ≡ onto (volumes s.shown) volume₀

-- the reading of a conversion with any rooms that are large enough
abbrev pub AssessesAs : (List ℕ → List ℕ → Converted) → ℕ → List Float → List Float → Type 0
AssessesAs conversion n volume₀ volume =
    (faces solids : List ℕ) → face_room ≤ length faces → solid_room ≤ length solids
    → Shows (reading_says (reading_of (conversion faces solids).answer)) n volume₀ volume

-- A reading from what is said of a conversion: the number of the table, 30 for two to eight solids, or the volume.
use Rattle.std.specs.Prelude.{ℕ, List, [], ◌∷◌}
use Rattle.std.proofs.Math.Option.{none, some}
use Rattle.paper.specs.Refusals.{value_of}
use Rattle.paper.specs.Refusals as No
use Rattle.paper.specs.Reading.{Said, Shown, volume}

-- a report has five values where there is one solid, with its six volumes last, and four where there are more
abbrev pub shown_by : ℕ → List ℕ → Shown
shown_by n (l ∷ c ∷ w ∷ s ∷ six ∷ vs) = record { number = 0; shown = some (volume six) }
shown_by n (l ∷ c ∷ w ∷ s ∷ []) = record { number = value_of No.Ambiguous; shown = none }
shown_by n (l ∷ c ∷ w ∷ []) = record { number = n; shown = none }
shown_by n (l ∷ c ∷ []) = record { number = n; shown = none }
shown_by n (l ∷ []) = record { number = n; shown = none }
shown_by n [] = record { number = n; shown = none }

abbrev pub shown_of : Said → Shown
shown_of s = shown_by s.number s.values

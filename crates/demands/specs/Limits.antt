-- "a higher allowed work limit changes no answer but TooLong".
use Rattle.std.specs.Prelude.{◌≡◌, List, ℕ, ◌≤◌}
use Rattle.paper.specs.Numbers.{most_work}
use Rattle.paper.specs.declared.Conversion.TheVariants as Conversion
use Rattle.demands.specs.Input.{Input, converted}

-- answer and both rooms; also where 1 or 3 to 16 refuse
abbrev pub HigherLimit : Type 0
HigherLimit =
    (x : Input) (a b : ℕ) → a ≤ b → b ≤ most_work → (faces solids : List ℕ)
    → ((l c w : ℕ) → (converted x a faces solids).answer ≡ Conversion.TooLong l c w → ⊥)
    → converted x b faces solids ≡ converted x a faces solids

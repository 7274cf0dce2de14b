-- A line that says which number refuses, and at which place.
use Rattle.std.specs.Prelude.{List, ℕ, ◌∷◌, [], ◌++◌, codes}
use Rattle.std.specs.Fmt.{decimal}

abbrev pub refused_line : ℕ → ℕ → List ℕ
refused_line number place = codes "refused " ++ decimal number ++ codes " " ++ decimal place ++ 10 ∷ []

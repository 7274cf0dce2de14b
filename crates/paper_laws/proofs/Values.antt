-- A number is told by what is said of it.
use Rattle.std.specs.Prelude.{ℕ, ◌≡◌}
use mathlib.Core.Path.{refl, ap}
use Rattle.paper.specs.Refusals.{value_of}
use Rattle.paper.specs.declared.Number.{Number}

abbrev pub number_of : ℕ → Number
number_of n = record { value = n }

pub number-back : (n : Number) → number_of (value_of n) ≡ n
number-back n = refl

pub value_told : (a b : Number) → value_of a ≡ value_of b → a ≡ b
value_told a b e = ap number_of e

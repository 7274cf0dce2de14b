-- "divided by 6,000,000, both held exactly, rounded once", as doubles have it.
use Rattle.std.specs.Prelude.{◌≡◌, ℕ, ◌^◌, ◌≤◌, false, pos, Ok}
use Rattle.std.specs.Float.{binary64}
use Rattle.std.specs.Float.Ieee.{of_int, prec, round}
use Rattle.std.specs.Float.Ieee.Exact.{HasValue}
use Rattle.paper.specs.declared.Conversion.{Conversion}
use Rattle.paper.specs.Refusals.{Reading}

-- "6,000,000": six volumes, in cubic centimetres, of a cubic metre
abbrev pub six_per_cubic_metre : ℕ
six_per_cubic_metre = 6000000

-- up to here doubles have every whole number
abbrev pub most_exact : ℕ
most_exact = 2 ^ prec binary64

-- "both held exactly": the double of a whole number is that number
abbrev pub HeldExactly : ℕ → Type 0
HeldExactly n = HasValue (of_int binary64 (pos n)) false n 1

-- "rounded once": the double nearest to the quotient of the two whole numbers
pub record Exactly (six : ℕ) (r : Reading) : Type 0 where
  pub dividend : HeldExactly six
  pub divisor : HeldExactly six_per_cubic_metre
  pub once : r ≡ Ok (round binary64 false six six_per_cubic_metre)

-- the exact case of a reading
abbrev pub ExactVolume : Conversion → Reading → Type 0
ExactVolume c r = (l k w six : ℕ) → c ≡ Conversion.One l k w six → six ≤ most_exact → Exactly six r

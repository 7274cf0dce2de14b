-- The sign of a whole number.
use Rattle.std.specs.Prelude.{zero, suc, ℤ, pos, negsuc}

pub data Sign3 : Type 0 where
  below level above : Sign3

abbrev pub sign : ℤ → Sign3
sign (pos zero) = level
sign (pos (suc n)) = above
sign (negsuc n) = below

-- the sign of -z, from that of z
abbrev pub negated_sign : Sign3 → Sign3
negated_sign below = above
negated_sign level = level
negated_sign above = below

-- the sign of a product, from those of its factors
abbrev pub product : Sign3 → Sign3 → Sign3
product below s = negated_sign s
product level s = level
product above s = s

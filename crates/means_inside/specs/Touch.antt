-- A point on a side.
use Rattle.std.specs.Prelude.{◌≡◌, List, pos, neg_ℤ}
use Rattle.paper.specs.declared.Flat.{Flat}
use Rattle.means_area.specs.Rings.{Link}
use Rattle.means_area.specs.Flats.{Nn, twice_area}
use Rattle.means_inside.specs.Beams.{facing}

-- p is on the side from a to b of g: in its line, and its ends are not to one side of p
pub record Touch (p : Flat) (g : List Flat) : Type 0 where
  pub a : Flat
  pub b : Flat
  pub side : Link g a b
  pub line : twice_area a b p ≡ pos 0
  pub mid : Nn (neg_ℤ (facing p a b))

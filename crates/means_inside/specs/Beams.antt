-- Rays in any direction, and how many sides of a ring they meet.
use Rattle.std.specs.Prelude.{◌≡◌, Bool, false, List, [], ◌∷◌, ℤ, pos, ◌+ℤ◌, ◌-ℤ◌, ◌*ℤ◌, ◌<ℤ◌}
use Rattle.std.specs.Bool.{xor}
use Rattle.std.specs.Int.Signed.{le_z}
use Rattle.paper.specs.declared.Flat.{Flat}
use Rattle.paper.specs.Polygon.{meets_ray}
use Rattle.means_area.specs.Rings.{Of, Link}
use Rattle.means_area.specs.Flats.{Up, twice_area, Cross, height, WithinSegment}

-- the number of true ones is odd, of f at the steps from x along l to e; at the sides of a ring
abbrev pub odd_along : (Flat → Flat → Bool) → Flat → List Flat → Flat → Bool
odd_along f x [] e = f x e
odd_along f x (y ∷ l) e = xor (f x y) (odd_along f y l e)

abbrev pub round : (Flat → Flat → Bool) → List Flat → Bool
round f [] = false
round f (x ∷ l) = odd_along f x l x

-- the ray from p through q meets the side from a to b, which is half open: points in the ray's line count as to its right
unfoldable pub right : Flat → Flat → Flat → Bool
unfolding twice_area
right p q a = le_z (twice_area p q a) (pos 0)

unfoldable pub beam : Flat → Flat → Flat → Flat → Bool
unfolding meets_ray right twice_area
beam p q a b = meets_ray (right p q a) (right p q b) (twice_area a b p)

-- p is not on the segment from a to b: where it is in the line, a and b are to one side of it
unfoldable pub facing : Flat → Flat → Flat → ℤ
facing p a b = (a.u -ℤ p.u) *ℤ (b.u -ℤ p.u) +ℤ (a.v -ℤ p.v) *ℤ (b.v -ℤ p.v)

abbrev pub Off : Flat → Flat → Flat → Type 0
Off p a b = twice_area a b p ≡ pos 0 → Up (facing p a b)

-- p is on no side of g
abbrev pub OffEverySide : Flat → List Flat → Type 0
OffEverySide p g = (a b : Flat) → Link g a b → Off p a b

-- the ray in the first coordinate's direction
abbrev pub east : Flat → Flat
east p = record { u = p.u +ℤ pos 1; v = p.v }

abbrev pub odd : Flat → List Flat → Bool
odd p g = round (beam p (east p)) g

-- nothing crosses the segment from v to p, and no corner is inside it
pub record Seen (m : ℤ) (v p : Flat) (g : List Flat) : Type 0 where
  pub up : height m v <ℤ height m p
  pub uncut : (x y : Flat) → Link g x y → Cross v p x y → ⊥
  pub bare : (x : Flat) → Of x g → WithinSegment m v p x → ⊥

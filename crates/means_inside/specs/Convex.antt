-- Convex rings, and points to one side of every side.
use Rattle.std.specs.Prelude.{◌≡◌, ◌⊎◌, List, [], ◌∷◌, ℤ, neg_ℤ}
use Rattle.paper.specs.declared.Flat.{Flat}
use Rattle.means_area.specs.Rings.{Of}
use Rattle.means_area.specs.Flats.{Up, Nn, twice_area}
use Rattle.means_inside.specs.Means.{big}

-- b comes next after a: on the way from x along l to e; in a ring
abbrev pub NextAlong : Flat → List Flat → Flat → Flat → Flat → Type 0
NextAlong x [] e a b = (a ≡ x) × (b ≡ e)
NextAlong x (y ∷ l) e a b = ((a ≡ x) × (b ≡ y)) ⊎ NextAlong y l e a b

abbrev pub Next : List Flat → Flat → Flat → Type 0
Next [] a b = ⊥
Next (x ∷ l) a b = NextAlong x l x a b

-- a turn, as one to the left or as one to the right
pub data Hand : Type 0 where
  lefts rights : Hand

abbrev pub handed : Hand → ℤ → ℤ
handed lefts t = t
handed rights t = neg_ℤ t

-- no corner is beyond a side: all are on one hand of it or in its line
abbrev pub Convex : Hand → List Flat → Type 0
Convex h g = (a b z : Flat) → Next g a b → Of z g → Nn (handed h (twice_area a b z))

-- the point p / d is on that hand of every side; or in the side's line
abbrev pub OnHand : Hand → ℤ → List Flat → Flat → Type 0
OnHand h d g p = (a b : Flat) → Next g a b → Up (handed h (twice_area (big d a) (big d b) p))

abbrev pub NotBeyond : Hand → ℤ → List Flat → Flat → Type 0
NotBeyond h d g p = (a b : Flat) → Next g a b → Nn (handed h (twice_area (big d a) (big d b) p))

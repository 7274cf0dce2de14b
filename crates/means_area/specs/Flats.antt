-- Simple rings in the flat, and twice the area.
use Rattle.std.specs.Prelude.{◌≡◌, List, [], ◌∷◌, ◌≤ℤ◌, ◌<ℤ◌}
use lib.IntN.{ℤ, pos, ◌+ℤ◌, ◌-ℤ◌, ◌*ℤ◌}
use Rattle.paper.specs.declared.Flat.{Flat}
use Rattle.means_area.specs.Rings.{Of, Link}

-- above 0; not below 0
abbrev pub Up : ℤ → Type 0
Up z = pos 0 <ℤ z

abbrev pub Nn : ℤ → Type 0
Nn z = pos 0 ≤ℤ z

-- twice the area of the triangle a, b, c: above 0 where c is to the left of the way from a to b
unfoldable pub twice_area : Flat → Flat → Flat → ℤ
twice_area a b c = (b.u -ℤ a.u) *ℤ (c.v -ℤ a.v) -ℤ (b.v -ℤ a.v) *ℤ (c.u -ℤ a.u)

-- the segments p q and r s cross: r is to the left of p q and s to the right, q is to the left of r s and p to the right. With r and s
-- exchanged they cross the other way.
pub record Cross (p q r s : Flat) : Type 0 where
  pub left : Up (twice_area p q r)
  pub right : Up (twice_area q p s)
  pub ahead : Up (twice_area r s q)
  pub behind : Up (twice_area s r p)

-- a height, for a number m: what is higher is beyond, along a line
unfoldable pub height : ℤ → Flat → ℤ
height m p = m *ℤ p.u +ℤ p.v

-- r is on the segment from p up to q, without its ends
pub record WithinSegment (m : ℤ) (p q r : Flat) : Type 0 where
  pub line : twice_area p q r ≡ pos 0
  pub after : height m p <ℤ height m r
  pub before : height m r <ℤ height m q

-- links between corners: no two cross, and none has a corner inside
pub record Net (m : ℤ) (L : Flat → Flat → Type 0) (Corner : Flat → Type 0) : Type 0 where
  pub back : {p q : Flat} → L p q → L q p
  pub end : {p q : Flat} → L p q → Corner p
  pub clear : {p q r s : Flat} → L p q → L r s → Cross p q r s → ⊥
  pub free : {p q r : Flat} → L p q → Corner r → WithinSegment m p q r → ⊥

module _ (m : ℤ) where
  -- no two corners are at one height: x and those of l; those of a list
  abbrev pub Fresh : Flat → List Flat → Type 0
  Fresh x l = (z : Flat) → Of z l → height m z ≡ height m x → ⊥

  abbrev pub Distinct : List Flat → Type 0
  Distinct [] = Unit {0}
  Distinct (x ∷ l) = Fresh x l × Distinct l

  -- a simple ring. Corners of 180 degrees are corners like others.
  pub record Simple (g : List Flat) : Type 0 where
    pub net : Net m (Link g) (λ x. Of x g)
    pub apart : Distinct g

  -- u is lower than all of l
  abbrev pub Least : Flat → List Flat → Type 0
  Least u l = (z : Flat) → Of z l → height m u <ℤ height m z

-- what the side from p to q adds to twice the area; the way from x along l to e; the ring
unfoldable pub area_part : Flat → Flat → ℤ
area_part p q = p.u *ℤ q.v -ℤ p.v *ℤ q.u

abbrev pub area_along : Flat → List Flat → Flat → ℤ
area_along x [] e = area_part x e
area_along x (y ∷ l) e = area_part x y +ℤ area_along y l e

abbrev pub area : List Flat → ℤ
area [] = pos 0
area (x ∷ l) = area_along x l x

-- two numbers of one sign, neither of them 0
pub data SameSign (a b : ℤ) : Type 0 where
  both : Up a → Up b → SameSign a b
  none : Up (lib.IntN.neg_ℤ a) → Up (lib.IntN.neg_ℤ b) → SameSign a b

-- the last of x and l
abbrev pub lst : {A : Type 0} → A → List A → A
lst x [] = x
lst x (y ∷ l) = lst y l

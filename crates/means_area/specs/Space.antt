-- Simple rings in a plane of space.
use Rattle.std.specs.Prelude.{◌≡◌, List, [], ◌∷◌, ℤ, pos}
use Rattle.paper.specs.Points.{minus, dot}
use Rattle.paper.specs.declared.Point.{Point}
use Rattle.paper.specs.declared.Axis.{Axis}
use Rattle.paper.specs.declared.Axis.TheVariants.{AlongX, AlongY, AlongZ}
use Rattle.means_drawing.specs.Segments.{Between, Common}
use Rattle.means_area.specs.Rings.{Of, Link}

-- no two corners are at one point
abbrev pub DifferentPoints : List Point → Type 0
DifferentPoints [] = Unit {0}
DifferentPoints (p ∷ l) = ((r : Point) → Of r l → r ≡ p → ⊥) × DifferentPoints l

-- a simple ring: no corner is inside a side, and two sides without a common corner have no common point
pub record SimpleRing (g : List Point) : Type 0 where
  pub apart : DifferentPoints g
  pub corners : (p q r : Point) → Link g p q → Of r g → Between p q r → ⊥
  pub edges : (p q r s : Point) → Link g p q → Link g r s → (p ≡ r → ⊥) → (p ≡ s → ⊥) → (q ≡ r → ⊥) → (q ≡ s → ⊥) → Common p q r s → ⊥

-- all corners are in the plane through s across n
pub record Level (n s : Point) (g : List Point) : Type 0 where
  pub every : (p : Point) → Of p g → dot n (minus p s) ≡ pos 0

-- the coordinate along an axis
abbrev pub through : Axis → Point → ℤ
through AlongX p = p.x
through AlongY p = p.y
through AlongZ p = p.z

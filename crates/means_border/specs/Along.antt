-- From a point strictly inside a loop, in a direction of its plane: the first border point, and all before it is inside.
use Rattle.std.specs.Prelude.{◌≡◌, List, ℤ, pos, ◌+ℤ◌, ◌*ℤ◌, ◌<ℤ◌}
use Rattle.paper.specs.Points.{origin, minus, dot}
use Rattle.paper.specs.Polygon.{Polygon, over, normal, where_flat, lies}
use Rattle.paper.specs.declared.Point.{Point}
use Rattle.paper.specs.declared.Flat.{Flat}
use Rattle.paper.specs.declared.Where.TheVariants.{Border, Inside}
use Rattle.means_drawing.specs.Segments.{along}
use Rattle.means_area.specs.Flats.{Up, Nn}
use Rattle.means_corner.specs.Ways.{ahead_by}

-- From p / n towards q / n, and beyond: the place s / m of the way is along m s p q, divided by m n. The border is first met at s / m,
-- which is above 0: there it is, and every point from p / n on before it is strictly inside.
pub record FirstBorder (g : Polygon) (p q : Point) (n : ℤ) : Type 0 where
  pub s : ℤ
  pub m : ℤ
  pub up_s : Up s
  pub up_m : Up m
  pub border : lies (over (along m s p q) (m *ℤ n)) g ≡ Border
  pub inside : (s' m' : ℤ) → Nn s' → Up m' → (s' *ℤ m) <ℤ (s *ℤ m') → lies (over (along m' s' p q) (m' *ℤ n)) g ≡ Inside

-- of every polygon whose normal is not 0, and every direction in its plane: the polygon need not be simple
abbrev pub MeetsBorder : Type 0
MeetsBorder =
    (g : Polygon) → (normal g ≡ origin → ⊥) → (p q : Point) (n : ℤ) → Up n → lies (over p n) g ≡ Inside → (p ≡ q → ⊥)
    → dot (normal g) (minus q p) ≡ pos 0 → FirstBorder g p q n

-- the same in the flat, of any list of corners, in the direction w
pub record FirstFlat (g : List Flat) (p : Flat) (d : ℤ) (w : Flat) : Type 0 where
  pub s : ℤ
  pub m : ℤ
  pub up_s : Up s
  pub up_m : Up m
  pub border : where_flat (ahead_by p w s m) (m *ℤ d) g ≡ Border
  pub inside : (s' m' : ℤ) → Nn s' → Up m' → (s' *ℤ m) <ℤ (s *ℤ m') → where_flat (ahead_by p w s' m') (m' *ℤ d) g ≡ Inside

abbrev pub MeetsFlat : Type 0
MeetsFlat =
    (g : List Flat) (p : Flat) (d : ℤ) → Up d → where_flat p d g ≡ Inside → (w : Flat) → Up (w.u *ℤ w.u +ℤ w.v *ℤ w.v)
    → FirstFlat g p d w

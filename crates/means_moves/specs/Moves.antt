-- The moves of space: a shift by w, the mirror x to -x, two axes exchanged, each coordinate k times.
use Rattle.std.specs.Prelude.{◌≡◌, Bool, false, not, List, [], ◌∷◌, map, ℕ, ◌+◌, ℤ, pos, neg_ℤ, ◌*ℤ◌}
use Rattle.paper.specs.Points.{pt, origin, plus, minus, times, dot, cross}
use Rattle.paper.specs.Polygon.{Polygon, over, normal, lies}
use Rattle.paper.specs.declared.Point.{Point}
use Rattle.paper_laws.specs.Planes.{InOwnPlane, OnPlane}
use Rattle.means_area.specs.Flats.{Up}

abbrev pub shift : Point → Point → Point
shift w p = plus p w

abbrev pub mirror : Point → Point
mirror p = pt (neg_ℤ p.x) p.y p.z

-- two coordinates exchanged
pub data Axes : Type 0 where
  XY YZ : Axes

abbrev pub exchange : Axes → Point → Point
exchange XY p = pt p.y p.x p.z
exchange YZ p = pt p.x p.z p.y

-- a drawing laid along the axes in another way: step by step, of which each mirrors
pub data Step : Type 0 where
  mirroring : Step
  exchanging : Axes → Step

abbrev pub laid_step : Step → Point → Point
laid_step mirroring p = mirror p
laid_step (exchanging e) p = exchange e p

abbrev pub laid : List Step → Point → Point
laid [] p = p
laid (s ∷ ss) p = laid ss (laid_step s p)

-- an odd number of steps mirrors, an even number turns
abbrev pub oddly : List Step → Bool
oddly [] = false
oddly (s ∷ ss) = not (oddly ss)

-- a polygon with a normal, and all its corners in the plane across it
pub record HasPlane (g : Polygon) : Type 0 where
  pub normal_real : normal g ≡ origin → ⊥
  pub plane_holds : InOwnPlane g

-- What every test of the geometry goes by. A point p goes to `to p` and, of a point p / d, the numerator to `big d p`; a direction goes
-- `along`, and what is across two directions `across`.
pub record Move : Type 0 where
  pub to : Point → Point
  pub big : ℤ → Point → Point
  pub along : Point → Point
  pub across : Point → Point
  -- products become so many times as large. Below 0 are the sides of a plane exchanged: the move mirrors.
  pub dots_by : ℤ
  pub crosses_by : ℤ
  pub sides_by : ℤ
  pub dots_up : Up dots_by
  pub crosses_up : Up crosses_by
  pub sides_real : sides_by ≡ pos 0 → ⊥
  pub differences : (p q : Point) → minus (to p) (to q) ≡ along (minus p q)
  pub dots : (p q : Point) → dot (along p) (along q) ≡ dots_by *ℤ dot p q
  pub crosses : (p q : Point) → cross (along p) (along q) ≡ across (cross p q)
  pub cross_dots : (p q : Point) → dot (across p) (across q) ≡ crosses_by *ℤ dot p q
  pub sides : (n p : Point) → dot (across n) (along p) ≡ sides_by *ℤ dot n p
  pub normals : (g : Polygon) → normal (map to g) ≡ across (normal g)
  -- a point, twice a midpoint, a mixture of two points; and the way to p / d
  pub once : (p : Point) → to p ≡ big (pos 1) p
  pub twice : (p q : Point) → plus (to p) (to q) ≡ big (pos 2) (plus p q)
  pub mixed : (a b : ℕ) (p q : Point)
      → plus (times (pos b) (to p)) (times (pos a) (to q)) ≡ big (pos (a + b)) (plus (times (pos b) p) (times (pos a) q))
  pub ways : (d : ℤ) (p q : Point) → minus (big d p) (times d (to q)) ≡ along (minus p (times d q))
  pub places : (d : ℤ) → Up d → (p : Point) (g : Polygon) → HasPlane g → OnPlane g p d
      → lies (over (big d p) d) (map to g) ≡ lies (over p d) g

-- what of it is to be known of a move that leaves (0,0,0) where it is and takes sums to sums
pub record Linear : Type 0 where
  pub to : Point → Point
  pub across : Point → Point
  pub dots_by : ℤ
  pub crosses_by : ℤ
  pub sides_by : ℤ
  pub dots_up : Up dots_by
  pub crosses_up : Up crosses_by
  pub sides_real : sides_by ≡ pos 0 → ⊥
  pub sums : (p q : Point) → plus (to p) (to q) ≡ to (plus p q)
  pub multiples : (k : ℤ) (p : Point) → times k (to p) ≡ to (times k p)
  pub dots : (p q : Point) → dot (to p) (to q) ≡ dots_by *ℤ dot p q
  pub crosses : (p q : Point) → cross (to p) (to q) ≡ across (cross p q)
  pub across_sums : (p q : Point) → plus (across p) (across q) ≡ across (plus p q)
  pub cross_dots : (p q : Point) → dot (across p) (across q) ≡ crosses_by *ℤ dot p q
  pub sides : (n p : Point) → dot (across n) (to p) ≡ sides_by *ℤ dot n p
  pub places : (d : ℤ) → Up d → (p : Point) (g : Polygon) → HasPlane g → OnPlane g p d
      → lies (over (to p) d) (map to g) ≡ lies (over p d) g

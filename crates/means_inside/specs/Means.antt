-- What `whereFlat` means.
use Rattle.std.specs.Prelude.{◌≡◌, List, map, ℤ, ◌*ℤ◌}
use Rattle.paper.specs.Polygon.{where_flat}
use Rattle.paper.specs.declared.Flat.{Flat}
use Rattle.paper.specs.declared.Where.TheVariants.{Outside, Border, Inside}
use Rattle.means_area.specs.Flats.{Up, area}
use Rattle.means_inside.specs.Regions.{Cut, At, OneWay, OffChords, AtMostOne}
use Rattle.means_inside.specs.Touch.{Touch}

-- d times as large
abbrev pub big : ℤ → Flat → Flat
big d a = record { u = d *ℤ a.u; v = d *ℤ a.v }

-- g has a triangulation such that a point p / d (p, against g d times as large) is inside or on the border where it is in one of the
-- closed triangles, and on the border where it is on a side
pub record Means (m : ℤ) (g : List Flat) : Type 0 where
  pub cut : Cut m g
  pub border : (d : ℤ) → Up d → (p : Flat) → where_flat p d g ≡ Border → Touch p (map (big d) g)
  pub on_border : (d : ℤ) → Up d → (p : Flat) → Touch p (map (big d) g) → where_flat p d g ≡ Border
  pub inside : (d : ℤ) → Up d → (p : Flat) → where_flat p d g ≡ Inside → At (big d) cut p × (Touch p (map (big d) g) → ⊥)
  pub is_inside_lem : (d : ℤ) → Up d → (p : Flat) → At (big d) cut p → (Touch p (map (big d) g) → ⊥) → where_flat p d g ≡ Inside
  pub outside : (d : ℤ) → Up d → (p : Flat) → where_flat p d g ≡ Outside → At (big d) cut p → ⊥
  pub is_outside : (d : ℤ) → Up d → (p : Flat) → (At (big d) cut p → ⊥) → where_flat p d g ≡ Outside
  -- all triangles turn the way that the ring does, and they overlap on chords only
  pub one_way : OneWay (area g) cut
  pub no_overlap : (d : ℤ) → Up d → (p : Flat) → (Touch p (map (big d) g) → ⊥) → OffChords (big d) cut p → AtMostOne (big d) cut p

-- Loops, cover and candidates in words: no test and no search.
use Rattle.std.specs.Prelude.{◌≡◌, ◌⊎◌, ℕ, ◌+◌, ◌<◌, pos, length, get_or}
use Rattle.paper.specs.Points.{origin}
use Rattle.paper.specs.Polygon.{Polygon, midpoint, plane_side, lies}
use Rattle.paper.specs.Drawing.{Wire}
use Rattle.paper.specs.Loops.{Loop, polygon}
use Rattle.paper.specs.declared.Where.TheVariants.{Border, Inside}
use Rattle.means_loops.specs.Path.{ClosedPath}
use Rattle.means_loops.specs.Shape.{Normal}
use Rattle.means_clash.specs.Clash.{corner_at}

-- "A loop is a closed path of 3 to 12 different vertices along edges, all in one plane": in its normal form, "start at the lowest vertex,
-- then go to the lower of its two neighbours"
pub record LoopOf (d : Wire) (q : Loop) : Type 0 where
  pub path : ClosedPath d q
  pub normal : Normal q

-- "Loop A covers a different loop B if both lie in one plane and the midpoint of every edge of B is inside A or on its border"
pub record Covers (g h : Polygon) : Type 0 where
  pub plane : (i : ℕ) → i < length h → plane_side g (get_or h i origin) ≡ pos 0
  pub middle : (i : ℕ) → i < length h
      → (lies (midpoint (corner_at h i) (corner_at h (i + 1))) g ≡ Inside) ⊎ (lies (midpoint (corner_at h i) (corner_at h (i + 1))) g ≡ Border)

-- "Candidates are the loops that cover no other loop"
pub record CandidateOf (d : Wire) (q : Loop) : Type 0 where
  pub loop : LoopOf d q
  pub bare : (r : Loop) → LoopOf d r → (r ≡ q → ⊥) → Covers (polygon d q) (polygon d r) → ⊥

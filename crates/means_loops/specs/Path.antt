-- "A loop is a closed path of 3 to 12 different vertices along edges, all in one plane": from any start and in any direction.
use Rattle.std.specs.Prelude.{◌≡◌, ◌⊎◌, ℕ, ◌≤◌, ◌<◌, length, get_or}
use Rattle.paper.specs.Drawing.{Wire, edge, edge_at}
use Rattle.paper.specs.Loops.{Loop, polygon}
use Rattle.means_solid.specs.Solid.{Goes}
use Rattle.means_solid.specs.Proper.{Different}
use Rattle.means_loops.specs.Plane.{InPlane}

-- an edge of the drawing has the ends a and b
abbrev pub EdgeOf : Wire → ℕ → ℕ → Type 0
EdgeOf d a b = (e : ℕ) × (e < length d.edges) × ((edge_at d e ≡ edge a b) ⊎ (edge_at d e ≡ edge b a))

pub record ClosedPath (d : Wire) (c : Loop) : Type 0 where
  pub three : 3 ≤ length c
  pub twelve : length c ≤ 12
  pub inside : (i : ℕ) → i < length c → get_or c i 0 < length d.vertices
  pub different : Different c
  pub along : (a b : ℕ) → Goes c a b → EdgeOf d a b
  pub plane : InPlane (polygon d c)

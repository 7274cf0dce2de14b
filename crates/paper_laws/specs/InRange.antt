-- A drawing in range, as refusals 3 to 10 leave it: what the functions on lent lists ask of them.
use Rattle.std.specs.Prelude.{◌≡◌, List, ℕ, ◌+◌, ◌*◌, ◌≤◌, ◌<◌, ℤ, pos, length, get_or, take}
use Rattle.exact.specs.Size.{Within}
use Rattle.paper.specs.Numbers.{least_vertices, most_vertices, least_edges, most_edges, farthest}
use Rattle.paper.specs.declared.Drawing.{Drawing}
use Rattle.paper.specs.Refusals.{first_of, Fine}
use Rattle.paper.specs.Sheet.{lent_checks}

-- three coordinates for each of v vertices
pub record Points (xyz : List ℤ) (v : ℕ) : Type 0 where
  pub whole : length xyz ≡ 3 * v
  pub near : (k : ℕ) → Within farthest (get_or xyz k (pos 0))

-- two ends for each edge, which rise
pub record Ends (ends : List ℕ) (v : ℕ) : Type 0 where
  pub edges : ℕ
  pub whole : length ends ≡ 2 * edges
  pub least : least_edges ≤ edges
  pub most : edges ≤ most_edges
  pub known : (k : ℕ) → k < length ends → get_or ends k 0 < v
  pub rising : (e : ℕ) → e < edges → get_or ends (2 * e) 0 < get_or ends (2 * e + 1) 0

pub record InRange (xyz : List ℤ) (ends : List ℕ) : Type 0 where
  pub vertices : ℕ
  pub least : least_vertices ≤ vertices
  pub most : vertices ≤ most_vertices
  pub points : Points xyz vertices
  pub links : Ends ends vertices

-- a drawing by value, whose lists have room for more
pub record Held (d : Drawing) : Type 0 where
  pub least : least_vertices ≤ d.vertices
  pub most : d.vertices ≤ most_vertices
  pub few : d.edges ≤ most_edges
  pub xyz_room : 3 * d.vertices ≤ length d.xyz
  pub ends_room : 2 * d.edges ≤ length d.ends
  pub ends_whole : length (take (2 * d.edges) d.ends) ≡ 2 * d.edges
  pub points : Points (take (3 * d.vertices) d.xyz) d.vertices
  pub links : Ends (take (2 * d.edges) d.ends) d.vertices

-- the two lists pass 3 to 10
abbrev pub PassedLists : List ℤ → List ℕ → Type 0
PassedLists xyz ends = Fine ≡ first_of (lent_checks xyz ends)

-- The numbers of edges by their ends, in a table with an entry for each pair of vertices.
use Rattle.std.specs.Prelude.{◌≡◌, List, ℕ, ◌+◌, ◌*◌, ◌/◌, ◌≤◌, ◌<◌, length, get_or}
use Rattle.std.proofs.Math.Option.{none}
use Rattle.lists.specs.Lists.{lowest}
use Rattle.paper.specs.Numbers.{most_vertices}
use Rattle.paper.specs.Sheet.{low_at}
use Rattle.paper.specs.Drawing.{Edge, edge}
use Rattle.paper_laws.specs.InRange.{Ends}

-- the ends of edges in rising order, as 10 leaves them
pub record RisingEnds (ends : List ℕ) : Type 0 where
  pub vertices : ℕ
  pub few : vertices ≤ most_vertices
  pub links : Ends ends vertices
  pub order : lowest (low_at ends) (length ends / 2) ≡ none

-- the entry of a pair
abbrev pub pair_at : ℕ → ℕ → ℕ
pair_at a b = most_vertices * a + b

-- edge e of es joins a and b: both entries of the pair are e
pub record EdgesNumbered (number : List ℕ) (es : List Edge) : Type 0 where
  pub up : (e a b : ℕ) → e < length es → get_or es e (edge 0 0) ≡ edge a b → get_or number (pair_at a b) 0 ≡ e
  pub down : (e a b : ℕ) → e < length es → get_or es e (edge 0 0) ≡ edge a b → get_or number (pair_at b a) 0 ≡ e

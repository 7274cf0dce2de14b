-- Neighbours as one word for each vertex: digit w of word u says whether an edge joins u and w.
use Rattle.paper_laws.specs.InRange.{Ends}
use Rattle.std.specs.Prelude.{◌≡◌, List, map, ℕ, ◌<◌, ◌≤◌, length, get_or}
use Rattle.lists.specs.Lists.{any, upto}
use Rattle.sets.specs.Word.{word, digit}
use Rattle.paper.specs.Numbers.{most_vertices}
use Rattle.paper.specs.Drawing.{Wire, Edge, joins, joined}

-- of v vertices and the edges es
unfoldable pub neighbour_word : List Edge → ℕ → ℕ → ℕ
unfolding any joins upto word
neighbour_word es v u = word (map (λ w. any (joins u w) es) (upto v))

unfoldable pub neighbour_words : List Edge → ℕ → List ℕ
unfolding neighbour_word upto
neighbour_words es v = map (neighbour_word es v) (upto most_vertices)

-- the ends of a drawing with v vertices, a word for each of which there is room for
pub record FewEnds (ends : List ℕ) (v : ℕ) : Type 0 where
  pub most : v ≤ most_vertices
  pub links : Ends ends v

-- the words are those of the drawing d, which has v vertices
pub record Links (words : List ℕ) (v : ℕ) (d : Wire) : Type 0 where
  pub count : length d.vertices ≡ v
  pub joins : (u : ℕ) → u < v → (w : ℕ) → digit (get_or words u 0) w ≡ joined d u w

-- A drawing's list of coordinates, moved vertex by vertex.
use Rattle.std.specs.Prelude.{List, [], ◌∷◌, ℕ, ◌<◌, ℤ, pos, length, get_or}
use Rattle.exact.specs.Size.{Within}
use Rattle.paper.specs.Numbers.{farthest}
use Rattle.paper.specs.Points.{pt}
use Rattle.paper.specs.declared.Point.{Point}

-- what is left of a list that isn't whole stays
unfoldable pub each_vertex : (Point → Point) → List ℤ → List ℤ
each_vertex f [] = []
each_vertex f (x ∷ []) = x ∷ []
each_vertex f (x ∷ (y ∷ [])) = x ∷ (y ∷ [])
each_vertex f (x ∷ (y ∷ (z ∷ l))) = (f (pt x y z)).x ∷ ((f (pt x y z)).y ∷ ((f (pt x y z)).z ∷ each_vertex f l))

-- "within the range": 8 applies nowhere
abbrev pub WithinRange : List ℤ → Type 0
WithinRange xyz = (k : ℕ) → k < length xyz → Within farthest (get_or xyz k (pos 0))

-- A list of points by its coordinates, three a point, and the boxes of edges in two such lists.
use Rattle.std.specs.Prelude.{List, ℕ, ◌+◌, ◌*◌, ℤ, set}
use Rattle.paper.specs.declared.Point.{Point}
use Rattle.polygon.specs.Rings.{point_of}
use Rattle.drawing_segments.specs.declared.Span.{Span}

-- point k becomes p
unfoldable pub point_put : List ℤ → ℕ → Point → List ℤ
point_put l k p = set (set (set l (3 * k) p.x) (3 * k + 1) p.y) (3 * k + 2) p.z

-- the box of edge e
abbrev pub box_in : List ℤ → List ℤ → ℕ → Span
box_in low high e = record { low = point_of low e; high = point_of high e }

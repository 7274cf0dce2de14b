-- A drawing by value and what refusals 8 to 10 say of its lists.
use Rattle.std.specs.Prelude.{List, ℕ, ◌*◌, ℤ, pos, take}
use Rattle.pack.specs.Fill.{padded}
use Rattle.paper.specs.Numbers.{most_vertices, most_edges}
use Rattle.paper.specs.Refusals.{first_of, Answer}
use Rattle.paper.specs.Sheet.{content_checks, drawn_for}
use Rattle.paper.specs.Sheet.{Sheet}

-- the lists of a drawing by value: what is known, then zeros
abbrev pub held_xyz : List ℤ → List ℤ
held_xyz xyz = padded xyz (3 * most_vertices) (pos 0)

abbrev pub held_ends : List ℕ → List ℕ
held_ends ends = padded ends (2 * most_edges) 0

abbrev pub kept_for : Answer → ℕ → ℕ → List ℤ → List ℕ → Sheet
kept_for a v e xyz ends = record { answer = a; drawing = drawn_for a (record { vertices = v; edges = e; xyz = xyz; ends = ends }) }

unfoldable pub kept_of : ℕ → ℕ → List ℤ → List ℕ → Sheet
kept_of v e xyz ends = kept_for (first_of (content_checks v (take (3 * v) xyz) (take (2 * e) ends))) v e xyz ends

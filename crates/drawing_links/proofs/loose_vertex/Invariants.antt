-- `drawing_links::loose_vertex`: the loop keeps that what is left to search holds the whole answer.
use mathlib.Core.Bool.{Bool, not}
use Prim.Native.Nat.{◌≤◌, ℕ}
use Rattle.lists.proofs.Search.{LowestLeft}
use Rattle.lists.specs.Lists.{any}
use Rattle.paper.specs.Drawing.{Wire, ends}
use Rattle.drawing_links.specs.Neighbours.{Links}
use Rattle.drawing_links.proofs.loose_vertex.Given as goal

abbrev pub Loose : Wire → ℕ → Bool
Loose d u = not (any (ends u) d.edges)

abbrev pub invariant-loop-u : goal.invariant-loop-u
invariant-loop-u l = (l.u ≤ l.v) × ((d : Wire) → Links l.near l.v d → LowestLeft (Loose d) l.v l.u)

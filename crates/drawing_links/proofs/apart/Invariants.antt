-- `drawing_links::apart`: the loop keeps that what is left to search holds the whole answer.
use mathlib.Core.Bool.{Bool, false, not}
use Prim.Native.Nat.{◌≤◌, ℕ}
use lib.ListN.{get_or}
use Rattle.lists.proofs.Search.{LowestLeft}
use Rattle.paper.specs.Drawing.{Wire, vertices_reached}
use Rattle.drawing_links.specs.Neighbours.{Links}
use Rattle.drawing_links.proofs.apart.Given as goal

abbrev pub Missing : Wire → ℕ → ℕ → Bool
Missing d v w = not (get_or (vertices_reached d v) w false)

abbrev pub invariant-loop-w : goal.invariant-loop-w
invariant-loop-w l = (l.w ≤ l.v) × ((d : Wire) → Links l.near l.v d → LowestLeft (Missing d l.v) l.v l.w)

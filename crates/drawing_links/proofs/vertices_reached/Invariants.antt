-- `drawing_links::vertices_reached`: the loop keeps that the set is what k steps reach, and a step that adds nothing ends them all.
use Rattle.drawing_links.specs.Reach.{DigitsAre}
use Prim.Native.Nat.{◌≤◌}
use Rattle.paper.specs.Drawing.{Wire, vertices_reached}
use Rattle.drawing_links.specs.Neighbours.{Links}
use Rattle.drawing_links.proofs.vertices_reached.Given as goal

abbrev pub invariant-loop-k : goal.invariant-loop-k
invariant-loop-k l = (l.k ≤ l.v) × ((d : Wire) → Links l.near l.v d → DigitsAre l.set l.v (vertices_reached d l.k))

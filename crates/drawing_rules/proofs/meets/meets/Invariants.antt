-- `drawing_rules::meets::meets`: the loop keeps that what is left to mark makes the whole of what is marked.
use mathlib.Core.Bool.{Bool}
use mathlib.Core.List.{List}
use mathlib.Core.Path.{◌≡◌}
use Prim.Native.Nat.{◌≤◌, ℕ}
use lib.ListN.{length}
use Rattle.sets.specs.Sets.{wides, Wide}
use Rattle.paper.specs.Drawing.{Wire, wire}
use Rattle.fast_meets.specs.Pairs.{later_marked}
use Rattle.fast_meets.proofs.Steps.{rest_of}
use Rattle.drawing_rules.proofs.meets.meets.Given as goal

-- what the loop keeps, of edge e of the drawing d
pub record Marking (d : Wire) (e n : ℕ) (hit met : Wide) (f : ℕ) : Type 0 where
  pub not_past : f ≤ n
  pub whole : n ≡ length d.edges
  pub left : (w : List Bool) → wides.Is hit w → (u : List Bool) × wides.Is met u × (later_marked d e w ≡ rest_of d e f u)

abbrev pub invariant-loop-f : goal.invariant-loop-f
invariant-loop-f l = Marking (wire l.xyz l.ends) l.e l.n l.initial.met l.met l.f

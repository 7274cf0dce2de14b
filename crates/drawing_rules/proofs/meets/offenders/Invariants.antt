-- `drawing_rules::meets::offenders`: the loop keeps that what is left to mark makes the whole of what is marked.
use mathlib.Core.List.{List}
use mathlib.Core.Bool.{Bool}
use mathlib.Core.Path.{◌≡◌}
use Prim.Native.Nat.{◌≤◌, ℕ}
use lib.ListN.{length}
use Rattle.sets.specs.Sets.{wides, Wide}
use Rattle.paper.specs.Drawing.{Wire, wire}
use Rattle.fast_meets.specs.Pairs.{offenders}
use Rattle.fast_meets.proofs.Steps.{pairs_of}
use Rattle.drawing_rules.proofs.meets.offenders.Given as goal

-- what the loop keeps
pub record Marking (d : Wire) (n : ℕ) (hit : Wide) (e : ℕ) : Type 0 where
  pub not_past : e ≤ n
  pub whole : n ≡ length d.edges
  pub left : (w : List Bool) × wides.Is hit w × (offenders d ≡ pairs_of d e w)

abbrev pub invariant-loop-e : goal.invariant-loop-e
invariant-loop-e l = Marking (wire l.xyz l.ends) l.n l.hit l.e

-- What the check needs of candidates.
use Rattle.std.specs.Prelude.{◌≡◌, List, ℕ, ◌<◌, length}
use Rattle.paper.specs.Drawing.{Wire}
use Rattle.paper.specs.Loops.{Loop, loop_at, polygon}
use Rattle.paper.specs.Clash.{clash}
use Rattle.means_loops.specs.Shape.{Normal}

-- they are in normal form, no two are one, and two clash whichever is named first
pub record ProperCandidates (d : Wire) (cs : List Loop) : Type 0 where
  pub normal : (k : ℕ) → k < length cs → Normal (loop_at cs k)
  pub differ : (j k : ℕ) → j < length cs → k < length cs → loop_at cs j ≡ loop_at cs k → j ≡ k
  pub even : (j k : ℕ) → j < length cs → k < length cs
      → clash (polygon d (loop_at cs j)) (polygon d (loop_at cs k)) ≡ clash (polygon d (loop_at cs k)) (polygon d (loop_at cs j))

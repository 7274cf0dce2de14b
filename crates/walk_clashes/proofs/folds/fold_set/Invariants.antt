-- `walk_clashes::folds::fold_set`: the loop keeps that the set has those before j that pass.
use mathlib.Core.Bool.{Bool}
use mathlib.Core.List.{List}
use Prim.Native.Nat.{ℕ, ◌≤◌, ◌<◌}
use lib.IntN.{ℤ}
use Rattle.sets.specs.Sets.{Is}
use Rattle.sets.specs.declared.Set.{Set}
use Rattle.walk_clashes.specs.Sorted.{Upto}
use Rattle.walk_clashes.specs.Folds.{FoldLent}
use Rattle.walk_clashes.proofs.Sharing.{Passes}
use Rattle.walk_clashes.proofs.folds.fold_set.Given as goal

-- what the loop keeps, of every drawing of which these are candidates
pub record Kept {xyz : List ℤ} {rows corners sides : List ℕ} {normals : List ℤ} {n : ℕ} (w : FoldLent xyz rows corners sides normals n) (g : ℕ)
    (known found : Set) (j : ℕ) : Type 0 where
  pub after : g < j
  pub not_past : j ≤ n
  pub passed : (s : List Bool) → Is known s → Upto (Passes w g s) j found

abbrev pub invariant-loop-j : goal.invariant-loop-j
invariant-loop-j l = (w : FoldLent l.xyz l.rows l.corners l.sides l.normals l.n) → Kept w l.g l.known l.found l.j

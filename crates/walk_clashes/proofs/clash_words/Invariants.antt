-- `walk_clashes::clash_words`: the loop keeps that the first g candidates are marked both ways.
use mathlib.Core.List.{List}
use mathlib.Core.Path.{◌≡◌}
use Prim.Native.Nat.{ℕ, ◌≤◌}
use lib.IntN.{ℤ}
use lib.ListN.{length}
use Rattle.walk_clashes.specs.Clashes.{ClashLent}
use Rattle.walk_clashes.proofs.Ways.{Ways}
use Rattle.walk_clashes.proofs.Clashing.{meets}
use Rattle.walk_clashes.proofs.clash_words.Given as goal

-- what the loop keeps, of every drawing of which these are candidates
pub record Kept {xyz : List ℤ} {rows near number on at corners sides : List ℕ} {normals : List ℤ} {n : ℕ}
    (w : ClashLent xyz rows near number on at corners sides normals n) (words₀ words : List ℕ) (g : ℕ) : Type 0 where
  pub not_past : g ≤ n
  pub marked : Ways (meets w) g words
  pub long : length words ≡ length words₀

abbrev pub invariant-loop-g : goal.invariant-loop-g
invariant-loop-g l = (w : ClashLent l.xyz l.rows l.near l.number l.on l.at l.corners l.sides l.normals l.n) → Kept w l.initial.words l.words l.g

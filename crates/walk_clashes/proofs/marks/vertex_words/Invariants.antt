-- `walk_clashes::marks::vertex_words`: the loop keeps that the words have the first k candidates.
use mathlib.Core.List.{List}
use mathlib.Core.Path.{◌≡◌}
use Prim.Native.Nat.{ℕ, ◌≤◌}
use lib.ListN.{length}
use Rattle.fast_tables.specs.Hits.{corner_mask}
use Rattle.walk_edges.proofs.Columns.{Columns}
use Rattle.walk_clashes.specs.Marking.{CornersOf}
use Rattle.walk_clashes.proofs.marks.vertex_words.Given as goal

-- what the loop keeps, of every drawing and candidates that have these corners
pub record Kept {corners : List ℕ} {n : ℕ} (w : CornersOf corners n) (words₀ words : List ℕ) (k : ℕ) : Type 0 where
  pub not_past : k ≤ n
  pub in_words : Columns (corner_mask w.drawing) w.loops words k
  pub long : length words ≡ length words₀

abbrev pub invariant-loop-k : goal.invariant-loop-k
invariant-loop-k l = (w : CornersOf l.corners l.n) → Kept w l.initial.at l.at l.k

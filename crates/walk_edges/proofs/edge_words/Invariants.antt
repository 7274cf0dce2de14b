-- `walk_edges::edge_words`: the loop keeps that the words have the first k candidates.
use mathlib.Core.List.{List}
use mathlib.Core.Path.{◌≡◌}
use Prim.Native.Nat.{◌≤◌, ℕ}
use lib.ListN.{length}
use Rattle.fast_tables.specs.Hits.{side_mask}
use Rattle.walk_edges.specs.Marks.{DrawnCandidates, up_mask}
use Rattle.walk_edges.proofs.Columns.{Columns}
use Rattle.walk_edges.proofs.edge_words.Given as goal

-- what the loop keeps, of every drawing and candidates that the rows are
pub record Kept {rows : List ℕ} {n : ℕ} {number : List ℕ} (w : DrawnCandidates rows n number) (on₀ on up₀ up : List ℕ) (k : ℕ) : Type 0 where
  pub not_past : k ≤ n
  pub on_in : Columns (side_mask w.drawing) w.loops on k
  pub up_in : Columns (up_mask w.drawing) w.loops up k
  pub on_long : length on ≡ length on₀
  pub up_long : length up ≡ length up₀

abbrev pub invariant-loop-k : goal.invariant-loop-k
invariant-loop-k l = (w : DrawnCandidates l.rows l.n l.number) → Kept w l.initial.on l.on l.initial.up l.up l.k

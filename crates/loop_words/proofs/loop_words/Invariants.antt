-- `loop_words::loop_words`: the loop keeps that the words of the first k rows are written.
use mathlib.Core.List.{List}
use mathlib.Core.Path.{◌≡◌}
use Prim.Native.Nat.{◌≤◌, ℕ}
use lib.ListN.{take}
use Rattle.fast_tables.specs.Hits.{corner_mask, side_mask}
use Rattle.loop_table.specs.Tables.{words_after}
use Rattle.loop_words.specs.Drawn.{DrawnTable}
use Rattle.loop_words.proofs.loop_words.Given as goal

-- what the loop keeps, of every drawing and loops that the rows are
pub record Kept {table : List ℕ} {n : ℕ} {number : List ℕ} (w : DrawnTable table n number) (corners₀ corners sides₀ sides : List ℕ)
    (k : ℕ) : Type 0 where
  pub not_past : k ≤ n
  pub corners-in : corners ≡ words_after (corner_mask w.drawing) (take k w.loops) corners₀
  pub sides-in : sides ≡ words_after (side_mask w.drawing) (take k w.loops) sides₀

abbrev pub invariant-loop-k : goal.invariant-loop-k
invariant-loop-k l = (w : DrawnTable l.table l.n l.number) → Kept w l.initial.corners l.corners l.initial.sides l.sides l.k

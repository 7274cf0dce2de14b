-- `loop_words::row_words`: the loop keeps that the words have gathered the first i corners and the numbers of the sides to them, and
-- that a is the corner before.
use mathlib.Core.List.{List}
use mathlib.Core.Path.{◌≡◌}
use Prim.Native.Nat.{◌≤◌, ℕ}
use lib.ListN.{get_or, length}
use Rattle.sets.specs.Sets.{one_word, wides, Wide}
use Rattle.sets.specs.declared.Set.{Set}
use Rattle.loop_words.specs.Drawn.{RowDrawn}
use Rattle.loop_words.proofs.Gathered.{Gathered}
use Rattle.loop_words.proofs.Masks.{prior, side_number}
use Rattle.loop_words.proofs.row_words.Given as goal

-- what the loop keeps, of every drawing and loop that the row is one of
pub record Kept {table : List ℕ} {k : ℕ} {number : List ℕ} (w : RowDrawn table k number) (len a : ℕ) (corners : Set) (sides : Wide)
    (i : ℕ) : Type 0 where
  pub whole : len ≡ length w.loop
  pub not_past : i ≤ len
  pub last : a ≡ get_or w.loop (prior (length w.loop) i) 0
  pub corners-in : Gathered one_word (λ j. get_or w.loop j 0) (length w.loop) corners i
  pub sides-in : Gathered wides (side_number number w.loop) (length w.loop) sides i

abbrev pub invariant-loop-i : goal.invariant-loop-i
invariant-loop-i l = (w : RowDrawn l.table l.k l.number) → Kept w l.len l.a l.corners l.sides l.i

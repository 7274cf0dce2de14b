-- `walk_edges::mark_sides`: the loop keeps that k is marked on the sides to the first i corners, among the words that go up on those that
-- go up, and that a is the corner before.
use Rattle.walk_edges.specs.Marks.{RowOf}
use Rattle.walk_edges.proofs.Turns.{Kept}
use Rattle.walk_edges.proofs.mark_sides.Given as goal

abbrev pub invariant-loop-i : goal.invariant-loop-i
invariant-loop-i l = (w : RowOf l.rows l.k l.number) → Kept w l.initial.on l.on l.initial.up l.up l.len l.a l.i

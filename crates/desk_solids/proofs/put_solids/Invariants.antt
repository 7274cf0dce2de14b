-- `desk_solids::put_solids`: the loop keeps that the lines of the first i solids are put, and those of the others are left. Each need goes
-- back to the loop and to the start.
use Rattle.paper.specs.Desk.{solids_text}
use Rattle.desk_lines.proofs.Putting.{Onward}
use Rattle.desk_solids.proofs.Lines.{solids_from}
use Rattle.desk_solids.proofs.put_solids.Given as goal

abbrev pub invariant-loop-i : goal.invariant-loop-i
invariant-loop-i l = Onward (solids_text 1 l.n l.words) (solids_from l.n l.words l.i) l.initial.room l.at l.room l.next

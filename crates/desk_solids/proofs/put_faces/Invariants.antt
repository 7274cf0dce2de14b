-- `desk_solids::put_faces`: the loop keeps that the faces before candidate k are put, and those from it on are left. Each need goes back
-- to the loop and to the start.
use Rattle.desk_lines.proofs.Putting.{Onward}
use Rattle.desk_solids.specs.Solids.{words_text}
use Rattle.desk_solids.proofs.Lines.{faces_from}
use Rattle.desk_solids.proofs.put_faces.Given as goal

abbrev pub invariant-loop-k : goal.invariant-loop-k
invariant-loop-k l = Onward (words_text l.solid) (faces_from l.solid l.k) l.initial.room l.at l.room l.next

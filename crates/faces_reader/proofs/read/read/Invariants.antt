-- `faces_reader::read::read`: the loop keeps that the first k faces of the list fit, and that rows holds them and nothing else. A face
-- that does not fit refuses the list, and so does a wrong end.
use Rattle.faces_reader.proofs.ReadFaces.{Read}
use Rattle.faces_reader.proofs.read.read.Given as goal

abbrev pub invariant-loop-k : goal.invariant-loop-k
invariant-loop-k l = Read l.f l.v l.s l.k l.at l.rows

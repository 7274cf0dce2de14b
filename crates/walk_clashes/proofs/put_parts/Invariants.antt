-- `walk_clashes::put_parts`: the loop keeps that the normals and the parts of the first k candidates are written.
use Rattle.walk_clashes.specs.Faces.{DrawnFaces}
use Rattle.walk_clashes.proofs.Parts.{Parts}
use Rattle.walk_clashes.proofs.put_parts.Given as goal

abbrev pub invariant-loop-k : goal.invariant-loop-k
invariant-loop-k l = (w : DrawnFaces l.xyz l.rows l.n) → Parts w l.normals l.initial.sixes l.sixes l.k

-- `faces_writer::write::weigh_all`: the loop keeps that what the candidates before k weigh and what the rest weighs is the whole.
use Rattle.faces_writer.proofs.Weight.{Weighing}
use Rattle.faces_writer.proofs.write.weigh_all.Given as goal

abbrev pub invariant-loop-k : goal.invariant-loop-k
invariant-loop-k l = Weighing l.f l.rows l.solid l.k l.faces l.bits

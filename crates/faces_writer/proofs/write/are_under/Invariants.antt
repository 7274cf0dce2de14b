-- `faces_writer::write::are_under`: the loop keeps that the corners left decide for all, since those before are low.
use Prim.Native.Nat.{◌≤◌}
use lib.Dec.{ltb}
use Rattle.lists.specs.Lists.{all}
use Rattle.lists.proofs.Search.{Left}
use Rattle.faces_writer.specs.Send.{corners_at}
use Rattle.faces_writer.proofs.write.are_under.Given as goal

abbrev pub invariant-loop-j : goal.invariant-loop-j
invariant-loop-j l = (l.j ≤ l.c) × Left (all (λ x. ltb x l.v)) (corners_at l.rows l.i l.c) l.j

-- `faces_reader::read::are_below`: the loop keeps that the numbers left decide for all, since those before are low.
use Prim.Native.Nat.{◌≤◌}
use lib.Dec.{ltb}
use Rattle.pack.specs.Bits.{fields_at}
use Rattle.lists.specs.Lists.{all}
use Rattle.lists.proofs.Search.{Left}
use Rattle.faces_reader.proofs.read.are_below.Given as goal

abbrev pub invariant-loop-k : goal.invariant-loop-k
invariant-loop-k l = (l.k ≤ l.c) × Left (all (λ x. ltb x l.v)) (fields_at l.s l.i l.w l.c) l.k

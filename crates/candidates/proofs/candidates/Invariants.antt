-- `candidates::candidates`: the loop keeps that the candidates among the loops before k are written.
use Prim.Native.Nat.{◌≤◌}
use Rattle.loop_cover.specs.Known.{Known}
use Rattle.candidates.proofs.Keeping.{Keeping}
use Rattle.candidates.proofs.candidates.Given as goal

abbrev pub invariant-loop-k : goal.invariant-loop-k
invariant-loop-k l = (l.k ≤ l.n) × ((q : Known l.xyz l.ends l.table l.n l.corners l.sides l.planes) → Keeping q l.initial.rows l.rows l.initial.kept_corners l.kept_corners l.initial.kept_sides l.kept_sides l.c l.k)

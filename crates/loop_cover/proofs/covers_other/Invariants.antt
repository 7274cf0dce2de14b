-- `loop_cover::covers_other`: the loop keeps that what the loops from j on say is the answer.
use Prim.Native.Nat.{◌≤◌}
use Rattle.loop_cover.specs.Known.{KnownLoop}
use Rattle.loop_cover.proofs.Covering.{Searching}
use Rattle.loop_cover.proofs.covers_other.Given as goal

abbrev pub invariant-loop-j : goal.invariant-loop-j
invariant-loop-j l = (l.j ≤ l.n) × ((q : KnownLoop l.xyz l.ends l.table l.n l.corners l.sides l.planes l.k) → Searching q l.f l.j)

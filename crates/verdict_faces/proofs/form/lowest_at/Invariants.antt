-- `verdict_faces::form::lowest_at`: the loop keeps that m is the place of the lowest of the first k corners.
use mathlib.Core.Path.{◌≡◌}
use Prim.Native.Nat.{◌<◌}
use Rattle.paper.specs.FaceList.{row_at}
use Rattle.paper.specs.Verdict.{lowest_at}
use Rattle.verdict_faces.proofs.form.lowest_at.Given as goal

abbrev pub invariant-loop-k : goal.invariant-loop-k
invariant-loop-k l = (l.m ≡ lowest_at (row_at l.table l.r) l.k) × (l.m < l.n)

-- `walk_clashes::hits::join_edges`: the loop keeps that what is left of the vertices has the whole answer.
use mathlib.Core.Bool.{Bool}
use mathlib.Core.List.{List}
use Rattle.sets.specs.Sets.{Is, size}
use Rattle.walk_clashes.specs.Lent.{DownLent}
use Rattle.walk_clashes.proofs.Crossed.{Down}
use Rattle.walk_clashes.proofs.hits.join_edges.Given as goal

abbrev pub invariant-loop-b : goal.invariant-loop-b
invariant-loop-b l =
    (w : DownLent l.xyz l.rows l.number l.on l.g l.m l.a l.initial.open) (s : List Bool) → Is l.initial.found s → Down w s l.open l.found

abbrev pub decreases-loop-b : goal.decreases-loop-b
decreases-loop-b l = size l.open

-- `walk_clashes::hits::sort_vertices`: the loop keeps that the first v vertices are sorted.
use mathlib.Core.Path.{◌≡◌}
use Prim.Native.Nat.{◌/◌, ◌≤◌}
use lib.ListN.{length}
use Rattle.walk_clashes.specs.Sorted.{Sorted}
use Rattle.walk_clashes.proofs.hits.sort_vertices.Given as goal

abbrev pub invariant-loop-v : goal.invariant-loop-v
invariant-loop-v l = (l.v ≤ l.n) × (l.n ≡ length l.xyz / 3) × Sorted l.xyz l.m l.o l.v l.s

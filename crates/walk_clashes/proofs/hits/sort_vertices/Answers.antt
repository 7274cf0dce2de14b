-- `walk_clashes::hits::sort_vertices`: the loop keeps that the first v vertices are sorted.
use mathlib.Core.Path.{◌≡◌, subst}
use Prim.Native.Nat.{◌/◌}
use native.Mathlib.Omega.{arith}
use lib.ListN.{length}
use Rattle.walk_clashes.specs.Sorted.{Sorted}
use Rattle.walk_clashes.proofs.Sorting.{upto-none}
use Rattle.walk_clashes.proofs.hits.sort_vertices.Goals as goal

pub loop-v-init : goal.loop-v-init
loop-v-init c = (
  omega arith,
  omega arith,
  record {
    above_in = upto-none _ c.none.ensures;
    below_in = upto-none _ c.none-2.ensures;
    flat_in = upto-none _ c.none-3.ensures;
  },
)

pub sort_vertex-s-requires : goal.sort_vertex-s-requires
sort_vertex-s-requires c =
    record { plane = c.requires; there = omega (arith, c.loop-v.invariant.1, c.loop-v-test.true) }

pub loop-v-preserved : goal.loop-v-preserved
loop-v-preserved c = let k = c.loop-v.invariant in (omega arith, k.1, c.sort_vertex-s.ensures k.2)

pub returns : goal.returns
returns c =
    let l = c.loop-v in
    let k = l.invariant in
    let a = c.args in
    let e : l.v ≡ length a.xyz.now / 3 = omega (arith, k.0, k.1, c.loop-v-test.false) in
    subst (λ u. Sorted a.xyz.now a.m a.o u l.s) e k.2

-- `walk_clashes::hits::entering`: the loop keeps that what is left of the vertices has the whole answer.
use Rattle.walk_clashes.proofs.Folding.{left_end}
use Rattle.walk_clashes.proofs.Gathering.{entering_start, entering_vertex, entering_next}
use Rattle.walk_clashes.proofs.hits.entering.Goals as goal

pub loop-v-init : goal.loop-v-init
loop-v-init c w = entering_start w c.none-found.ensures

pub join_vertex-found-requires : goal.join_vertex-found-requires
join_vertex-found-requires c = let w = c.requires in entering_vertex w (c.loop-v.invariant w) c.in-Some.ensures

pub loop-v-preserved : goal.loop-v-preserved
loop-v-preserved c w = entering_next w (c.loop-v.invariant w) c.in-Some.ensures c.join_vertex-found.ensures

pub returns : goal.returns
returns c w = left_end (c.loop-v.invariant w) c.in_default.ensures.0

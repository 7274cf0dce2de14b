-- `walk_clashes::hits::join_edges`: the loop keeps that what is left of the vertices has the whole answer.
use Rattle.walk_clashes.proofs.Folding.{left_end}
use Rattle.walk_clashes.proofs.Crossed.{down_start, down_edge, down_next}
use Rattle.walk_clashes.proofs.hits.join_edges.Goals as goal

pub loop-b-init : goal.loop-b-init
loop-b-init c w s i = down_start w s i

pub join_edge-found-requires : goal.join_edge-found-requires
join_edge-found-requires c =
    let p = c.requires in
    down_edge p.down p.mask (c.loop-b.invariant p.down p.mask p.mask_is) c.in-Some.ensures

pub loop-b-preserved : goal.loop-b-preserved
loop-b-preserved c w s i = down_next w s (c.loop-b.invariant w s i) c.in-Some.ensures c.join_edge-found.ensures

pub returns : goal.returns
returns c w s i = left_end (c.loop-b.invariant w s i) c.in_default.ensures.0

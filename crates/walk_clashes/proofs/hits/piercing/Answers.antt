-- `walk_clashes::hits::piercing`: the loop keeps that what is left of the vertices above has the whole answer.
use native.Mathlib.Omega.{arith}
use Rattle.walk_clashes.proofs.Folding.{left_end}
use Rattle.walk_clashes.proofs.Gathering.{going_start, going_low, going_edges, going_next}
use Rattle.walk_clashes.proofs.hits.piercing.Goals as goal

pub loop-a-init : goal.loop-a-init
loop-a-init c w = going_start w c.none-found.ensures

pub at-tied-requires : goal.at-tied-requires
at-tied-requires c = let w = c.requires in omega (arith, going_low w (c.loop-a.invariant w) c.in-Some.ensures)

pub join_edges-found-requires : goal.join_edges-found-requires
join_edges-found-requires c =
    let w = c.requires in
    going_edges w (c.loop-a.invariant w) c.in-Some.ensures c.at-tied.ensures c.and.ensures

pub loop-a-preserved : goal.loop-a-preserved
loop-a-preserved c w =
    going_next w (c.loop-a.invariant w) c.in-Some.ensures c.at-tied.ensures c.and.ensures c.join_edges-found.ensures

pub returns : goal.returns
returns c w = left_end (c.loop-a.invariant w) c.in_default.ensures.0

-- `loop_search::starting_at`: the loop keeps that the rooms hold the loops whose second vertex was gone through.
use Rattle.loop_search.proofs.Starting.{starting_start, second_at, starting_next, starting_end}
use Rattle.loop_search.proofs.starting_at.Goals as goal

pub loop-w-init : goal.loop-w-init
loop-w-init c =
    starting_start c.args.near.now c.requires c.lowest_of.ensures c.lowest_of-2.ensures c.minus-higher.ensures c.at.ensures
    c.and-later.ensures

pub on_line-c-requires : goal.on_line-c-requires
on_line-c-requires c =
    second_at c.args.near.now c.requires c.lowest_of.ensures c.lowest_of-2.ensures c.minus-higher.ensures c.loop-w.invariant
    c.in-Some.ensures c.without.ensures

pub loop-w-preserved : goal.loop-w-preserved
loop-w-preserved c =
    starting_next c.args.near.now c.requires c.lowest_of.ensures c.lowest_of-2.ensures c.minus-higher.ensures c.loop-w.invariant
    c.in-Some.ensures c.without.ensures c.on_line-c.ensures

pub returns : goal.returns
returns c =
    starting_end c.args.near.now c.requires c.lowest_of.ensures c.lowest_of-2.ensures c.minus-higher.ensures c.loop-w.invariant
    c.in_default.ensures.0

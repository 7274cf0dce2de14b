-- `walk_leaf::clear`: the loop keeps that the faces left give the whole answer.
use Rattle.sets.specs.Sets.{wides}
use Rattle.walk_state.proofs.Lowest.{is_none, is_some}
use Rattle.walk_leaf.proofs.Sums.{clear-start, clear_not, clear_next, clear-end}
use Rattle.walk_leaf.proofs.clear.Goals as goal

pub loop-k-init : goal.loop-k-init
loop-k-init c = clear-start c.args.clashes.now c.args.taken

pub returns-then-not-is_empty : goal.returns-then-not-is_empty
returns-then-not-is_empty c =
    let a = c.args in
    clear_not a.clashes.now a.taken c.loop-k.invariant c.in-Some.ensures c.at.ensures c.and-clashing.ensures
    (is_some wides c.and-clashing.result c.is_empty.ensures c.if-not-is_empty.true)

pub loop-k-preserved : goal.loop-k-preserved
loop-k-preserved c =
    let a = c.args in
    clear_next a.clashes.now a.taken c.loop-k.invariant c.in-Some.ensures c.at.ensures c.and-clashing.ensures
    (is_none wides c.and-clashing.result c.is_empty.ensures c.if-not-is_empty.false)

pub returns : goal.returns
returns c = clear-end c.args.clashes.now c.args.taken c.loop-k.invariant c.in_default.ensures.0

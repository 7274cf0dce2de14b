-- `walk_state::first_open`: the loop keeps that the answer is that of the search from this edge on.
use mathlib.Core.Path.{refl}
use native.Mathlib.Omega.{arith}
use Rattle.sets.specs.Sets.{wides}
use Rattle.walk_state.proofs.Lowest.{is_none, is_some}
use Rattle.walk_state.proofs.Choosing.{open_found, open_next, open_last}
use Rattle.walk_state.proofs.first_open.Goals as goal

pub loop-edge-init : goal.loop-edge-init
loop-edge-init c = λ masks st i l w. refl

pub returns-then-not-is_empty : goal.returns-then-not-is_empty
returns-then-not-is_empty c =
    let a = c.args in
    open_found a.on.now a.m a.undecided a.from c.loop-edge.edge c.loop-edge.invariant (omega arith) c.at.ensures
    c.and-free.ensures (is_some wides c.and-free.result c.is_empty.ensures c.if-not-is_empty.true)

pub loop-edge-preserved : goal.loop-edge-preserved
loop-edge-preserved c =
    let a = c.args in
    open_next a.on.now a.m a.undecided a.from c.loop-edge.edge c.loop-edge.invariant (omega arith)
    c.at.ensures c.and-free.ensures (is_none wides c.and-free.result c.is_empty.ensures c.if-not-is_empty.false)

pub returns : goal.returns
returns c =
    let a = c.args in
    open_last a.on.now a.m a.undecided a.from c.loop-edge.edge c.loop-edge.invariant (omega arith)

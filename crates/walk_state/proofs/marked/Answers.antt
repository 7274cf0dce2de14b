-- `walk_state::marked`: the edge passed is the lowest ahead, so that all below it are the e lowest.
use native.Mathlib.Omega.{arith}
use Rattle.sets.specs.Sets.{wides}
use Rattle.sets.proofs.Laws.{rest_drops}
use Rattle.walk_state.proofs.Lowest.{is_none, is_some}
use Rattle.walk_state.proofs.Marking.{marked-none, marked-some}
use Rattle.walk_state.proofs.marked.Goals as goal

pub returns-then-is_empty : goal.returns-then-is_empty
returns-then-is_empty c =
    let a = c.args in
    let e = c.lowest-e.ensures in
    marked-none a.sides.now a.m c.requires e (rest_drops e c.rest-after.ensures) (omega arith) (omega arith) a.decided
    (is_none wides a.decided c.is_empty.ensures c.if-is_empty.true) c.turned.ensures

pub returns : goal.returns
returns c =
    let a = c.args in
    let e = c.lowest-e.ensures in
    marked-some a.sides.now a.m c.requires e (rest_drops e c.rest-after.ensures) a.decided
    (is_some wides a.decided c.is_empty.ensures c.if-is_empty.false) c.gathered-touched.ensures
    c.lowest_of-below.ensures
    c.minus.ensures c.without.ensures c.or.ensures c.and.ensures c.or-2.ensures
    (omega arith) (omega arith) c.turned-2.ensures

-- `walk_state::turned`: where none is ahead, the next sweep begins.
use Rattle.sets.specs.Sets.{wides}
use Rattle.walk_state.proofs.Lowest.{is_none, is_some}
use Rattle.walk_state.proofs.Marking.{turned_over, turned_on}
use Rattle.walk_state.proofs.turned.Goals as goal

pub returns-then-is_empty : goal.returns-then-is_empty
returns-then-is_empty c =
    let a = c.args in
    turned_over a.ahead a.later (is_none wides a.ahead c.is_empty.ensures c.if-is_empty.true) c.none.ensures

pub returns : goal.returns
returns c =
    let a = c.args in
    turned_on a.ahead a.later (is_some wides a.ahead c.is_empty.ensures c.if-is_empty.false)

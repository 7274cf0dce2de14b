-- `walk_leaf::faces::turned_at`: face f and the others run the edge in unlike ways just where one of the two sets is empty.
use mathlib.Core.Bool.{xor}
use Rattle.walk_leaf.proofs.Steps.{runs-unlike, turned_stays, turned_more}
use Rattle.walk_leaf.proofs.faces.turned_at.Goals as goal

-- ---- the needs

pub returns-then-down-other_down : goal.returns-then-down-other_down
unfolding xor
returns-then-down-other_down c =
    let a = c.args in
    turned_stays a.up a.turned a.f a.other (runs-unlike c.unlike-runs.ensures) c.just.ensures
    c.and.ensures
    c.and-2.ensures c.is_empty-down.ensures c.is_empty-other_down.ensures c.if-down-other_down.true

pub returns : goal.returns
unfolding xor
returns c =
    let a = c.args in
    turned_more a.up a.turned a.f a.other (runs-unlike c.unlike-runs.ensures) c.just.ensures
    c.and.ensures
    c.and-2.ensures c.is_empty-down.ensures c.is_empty-other_down.ensures c.if-down-other_down.false c.or.ensures

-- `walk_leaf::once_each_way`: one face taken runs the edge upwards and one downwards.
use Rattle.walk_leaf.proofs.Steps.{runs-unlike}
use Rattle.walk_leaf.proofs.Directions.{way_not, way_once}
use Rattle.walk_leaf.proofs.once_each_way.Goals as goal

pub returns-then-is_one : goal.returns-then-is_one
returns-then-is_one c =
    let a = c.args in
    way_once a.mask a.up a.taken a.turned c.and-mine.ensures
    (runs-unlike c.unlike-runs.ensures)
    c.and.ensures c.is_one.ensures c.if-is_one.true c.minus.ensures c.is_one-then-is_one.ensures

pub returns : goal.returns
returns c =
    let a = c.args in
    way_not a.mask a.up a.taken a.turned c.and-mine.ensures
    (runs-unlike c.unlike-runs.ensures)
    c.and.ensures c.is_one.ensures c.if-is_one.false

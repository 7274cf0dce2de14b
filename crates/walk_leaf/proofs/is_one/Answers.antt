-- `walk_leaf::is_one`: without its lowest it is empty.
use native.Mathlib.Omega.{arith}
use Rattle.sets.specs.Sets.{wides}
use Rattle.walk_state.proofs.Lowest.{is_none, is_some}
use Rattle.walk_leaf.proofs.Directions.{one_none, one_some}
use Rattle.walk_leaf.proofs.is_one.Goals as goal

pub returns-then-is_empty : goal.returns-then-is_empty
returns-then-is_empty c = let x = c.args.x in one_none x (is_none wides x c.is_empty.ensures c.if-is_empty.true)

pub lowest-requires : goal.lowest-requires
lowest-requires c = is_some wides c.args.x c.is_empty.ensures c.if-is_empty.false

pub returns : goal.returns
returns c = one_some (omega arith) c.lowest.ensures c.without.ensures c.is_empty-2.ensures

-- `walk::walk`: each way out is one of the laws.
use Rattle.sets.specs.Sets.{wides}
use Rattle.walk_tables.specs.Words.{WalkTables, walk_tables}
use Rattle.walk_state.proofs.Lowest.{is_none, is_some}
use Rattle.walk.proofs.Walking.{walked_ended, walked-broken, walked-leaf, walked_both}
use Rattle.walk.proofs.+walk.Goals as goal

pub returns-then-t-ne0 : goal.returns-then-t-ne0
returns-then-t-ne0 t c = walked_ended c.args.limit c.requires.roomy c.if-t-ne0.true

pub returns-in_default : goal.returns-in_default
returns-in_default t c = walked-broken c.args.limit c.if-t-ne0.false c.requires.roomy c.in_default.ensures

pub returns-then-is_empty : goal.returns-then-is_empty
returns-then-is_empty t c =
    let a = c.args in
    let lent : WalkTables = walk_tables a.on.now a.up.now a.sides.now a.clashes.now a.sixes.now in
    walked-leaf {tables = lent} a.limit c.if-t-ne0.false c.in-Some.ensures
    (is_none wides c.in-Some.s.undecided c.is_empty.ensures c.if-is_empty.true) c.kept.ensures

pub returns : goal.returns
returns t c =
    let a = c.args in
    let lent : WalkTables = walk_tables a.on.now a.up.now a.sides.now a.clashes.now a.sixes.now in
    walked_both {tables = lent} c.if-t-ne0.false c.in-Some.ensures
    (is_some wides c.in-Some.s.undecided c.is_empty.ensures c.if-is_empty.false) c.branches-next.ensures
    c.assumed-a.ensures c.walk-d.ensures c.assumed-c.ensures c.walk.ensures

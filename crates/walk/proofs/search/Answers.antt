-- `walk::search`: the walk with nothing decided and all edges to be passed.
use Rattle.walk_tables.specs.Words.{WalkTables, walk_tables}
use Rattle.walk.proofs.Starting.{searched}
use Rattle.walk.proofs.search.Goals as goal

-- the tables that were lent
abbrev lent : goal.After-walk → WalkTables
lent c = let a = c.args in walk_tables a.on.now a.up.now a.sides.now a.clashes.now a.sixes.now

pub returns : goal.returns
returns c =
    searched {tables = lent c} c.requires.few c.none.ensures c.lowest_of.ensures c.lowest_of-2.ensures
    c.walk.ensures

-- `walk_state::State::settled_on`: a set that is not empty has one more than its rest, so that the tests tell M from 2, and where M is 0
-- or 1, L from as many as are missing to 2; each way through them is one of the laws.
use native.Mathlib.Omega.{arith}
use Rattle.walk_state.proofs.Settling.{edge_many, edge_few, edge_two, edge-exactly, edge_more}
use Rattle.walk_state.proofs.State.settled_on.Goals as goal

pub returns-then-count-gt1-2 : goal.returns-then-count-gt1-2
returns-then-count-gt1-2 c = edge_many c.args.self c.args.mask c.and-on.ensures c.and-free.ensures (omega arith)

pub returns-then-count-gt1 : goal.returns-then-count-gt1
returns-then-count-gt1 c =
    edge_two c.args.self c.args.mask c.and-on.ensures c.and-free.ensures c.with_decided.ensures
    (omega arith) (omega arith) (omega arith)

pub returns-then-count-lt2 : goal.returns-then-count-lt2
returns-then-count-lt2 c = edge_few c.args.self c.args.mask c.and-on.ensures c.and-free.ensures (omega arith)

pub returns-then-count-lt2-2 : goal.returns-then-count-lt2-2
returns-then-count-lt2-2 c =
    edge-exactly c.args.self c.args.mask c.and-on.ensures c.and-free.ensures c.or.ensures c.with_decided-then-count-lt2-2.ensures
    (omega arith) (omega (arith, c.rest-then-count-lt1.ensures)) (omega arith) (omega arith)

pub returns-then-count-lt1 : goal.returns-then-count-lt1
returns-then-count-lt1 c =
    edge_more c.args.self c.args.mask c.and-on.ensures c.and-free.ensures c.none.ensures c.with_decided-then-count-lt1.ensures
    (omega arith) (omega (arith, c.rest-then-count-lt1.ensures)) (omega arith)

pub returns-then-count-lt1-2 : goal.returns-then-count-lt1-2
returns-then-count-lt1-2 c = edge_few c.args.self c.args.mask c.and-on.ensures c.and-free.ensures (omega arith)

pub returns-then-count-lt2-3 : goal.returns-then-count-lt2-3
returns-then-count-lt2-3 c =
    edge-exactly c.args.self c.args.mask c.and-on.ensures c.and-free.ensures c.or-then-count-lt2-3.ensures
    c.with_decided-then-count-lt2-3.ensures (omega arith) (omega arith) (omega arith) (omega arith)

pub returns : goal.returns
returns c =
    edge_more c.args.self c.args.mask c.and-on.ensures c.and-free.ensures c.none-2.ensures c.with_decided-2.ensures
    (omega arith) (omega arith) (omega arith)

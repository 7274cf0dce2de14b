-- `walk_state::State::with_taken`: the candidate goes from one set to the other. It is below 64, since it is in a set.
use native.Mathlib.Omega.{arith}
use Rattle.sets.proofs.Sets.{wides_laws}
use Rattle.walk_state.proofs.Deciding.{narrow, taken_is}
use Rattle.walk_state.proofs.State.with_taken.Goals as goal

pub with-requires : goal.with-requires
with-requires c = narrow wides_laws c.args.k (omega arith) c.requires

pub without-requires : goal.without-requires
without-requires c = narrow wides_laws c.args.k (omega arith) c.requires

pub returns : goal.returns
returns c =
    taken_is c.args.self c.args.k (omega arith) c.requires c.without.ensures c.with.ensures

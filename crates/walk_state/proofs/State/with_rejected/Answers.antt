-- `walk_state::State::with_rejected`: the candidate leaves the undecided, and those taken stay.
use native.Mathlib.Omega.{arith}
use Rattle.sets.proofs.Sets.{wides_laws}
use Rattle.walk_state.proofs.Deciding.{narrow, rejected_is}
use Rattle.walk_state.proofs.State.with_rejected.Goals as goal

pub without-requires : goal.without-requires
without-requires c = narrow wides_laws c.args.k (omega arith) c.requires

pub returns : goal.returns
returns c =
    rejected_is c.args.self c.args.k (omega arith) c.requires c.without.ensures

-- `walk::branch::branches`: the candidate found is undecided, so that either status can be given.
use Rattle.walk.proofs.Branching.{lowest_open, assumes}
use Rattle.walk.proofs.branch.branches.Goals as goal

-- ---- the needs

pub lowest-k-requires : goal.lowest-k-requires
lowest-k-requires c = c.first_open-open.ensures.some c.requires.some

pub with_taken-taking-requires : goal.with_taken-taking-requires
with_taken-taking-requires c =
    lowest_open c.args.s c.first_open-open.ensures c.lowest-k.ensures

pub with_rejected-rejecting-requires : goal.with_rejected-rejecting-requires
with_rejected-rejecting-requires c =
    lowest_open c.args.s c.first_open-open.ensures c.lowest-k.ensures

pub returns : goal.returns
returns c =
    let edge = c.at-changed.ensures in
    record {
      takes = assumes c.args.s c.first_open-open.ensures c.lowest-k.ensures edge c.with_taken-taking.ensures;
      rejects = assumes c.args.s c.first_open-open.ensures c.lowest-k.ensures edge c.with_rejected-rejecting.ensures;
    }

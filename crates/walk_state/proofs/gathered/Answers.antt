-- `walk_state::gathered`: the loop keeps that `all` has the edges of the candidates gone through, and that those of `left` are
-- what is missing.
use Rattle.walk_state.proofs.Gathering.{gathering_start, gathering_more, gathering_end}
use Rattle.walk_state.proofs.gathered.Goals as goal

pub loop-k-init : goal.loop-k-init
loop-k-init c = let a = c.args in gathering_start a.sides.now a.set c.none-all.ensures

pub loop-k-preserved : goal.loop-k-preserved
loop-k-preserved c =
    let a = c.args in
    gathering_more a.sides.now a.set c.loop-k.invariant c.in-Some.ensures c.at.ensures c.or-all.ensures

pub returns : goal.returns
returns c = let a = c.args in gathering_end a.sides.now a.set c.loop-k.invariant c.in_default.ensures.0

-- `walk::tally::Tally::assumed`: each way out is one of the laws.
use Rattle.walk.proofs.Tallies.{assumed_ended, assumed_more, assumed_none}
use Rattle.walk.proofs.tally.Tally.assumed.Goals as goal

pub returns-then-self-ne0 : goal.returns-then-self-ne0
returns-then-self-ne0 c = assumed_ended c.args.limit c.if-self-ne0.true

pub returns-then-self-limit : goal.returns-then-self-limit
returns-then-self-limit c =
    assumed_more c.args.limit c.if-self-ne0.false c.if-self-limit.true

pub returns : goal.returns
returns c =
    assumed_none c.args.limit c.if-self-ne0.false c.if-self-limit.false

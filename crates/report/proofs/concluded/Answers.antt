-- `report::concluded`: each way out is one of the laws.
use Rattle.report.proofs.Concluding.{says_many, says_too_long, says_reported}
use Rattle.report.proofs.concluded.Goals as goal

pub returns-then-ended : goal.returns-then-ended
returns-then-ended c = says_many c.if-ended.true

pub returns-then-ended-2 : goal.returns-then-ended-2
returns-then-ended-2 c = says_too_long c.if-ended.false c.if-ended-2.true

pub returns : goal.returns
returns c = says_reported c.if-ended.false c.if-ended-2.false c.reported.ensures

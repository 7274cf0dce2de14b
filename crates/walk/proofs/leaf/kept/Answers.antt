-- `walk::leaf::kept`: each way out is one of the laws.
use Rattle.walk.proofs.Keeping.{kept_not, kept_full, kept_more}
use Rattle.walk.proofs.leaf.kept.Goals as goal

pub returns-in_default : goal.returns-in_default
returns-in_default c = kept_not c.requires.roomy c.in_default.ensures

pub returns-then-k-ge-MOST_SOLIDS : goal.returns-then-k-ge-MOST_SOLIDS
returns-then-k-ge-MOST_SOLIDS c = kept_full c.requires.roomy c.in-Some.solid c.in-Some.ensures c.if-k-ge-MOST_SOLIDS.true

pub returns : goal.returns
returns c = kept_more c.requires.roomy c.in-Some.solid c.in-Some.ensures c.if-k-ge-MOST_SOLIDS.false

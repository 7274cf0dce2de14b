-- `clerk_words::word_of`: −1 less a number below 0 is no less than 0, and its complement is the word.
use Rattle.clerk_words.proofs.Signed.{again, Below, below, not-below}
use Rattle.clerk_words.proofs.word_of.Goals as goal

negative : (c : goal.Then-x-lt0) → Below (again c.args.x) c.args.x
negative c = below c.args.x c.ranges.x c.if-x-lt0.true

pub overflow_sub-result : goal.overflow_sub-result
overflow_sub-result c = (negative c).sub-fits

pub overflow_cast-result : goal.overflow_cast-result
overflow_cast-result c = (negative c).casts

pub overflow_cast-result-else-x-lt0 : goal.overflow_cast-result-else-x-lt0
overflow_cast-result-else-x-lt0 c = (not-below c.args.x c.ranges.x c.if-x-lt0.false).0

pub returns-then-x-lt0 : goal.returns-then-x-lt0
returns-then-x-lt0 c = (negative c).word_is

pub returns-else-x-lt0 : goal.returns-else-x-lt0
returns-else-x-lt0 c = (not-below c.args.x c.ranges.x c.if-x-lt0.false).1

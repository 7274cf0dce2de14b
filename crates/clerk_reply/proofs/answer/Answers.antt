-- `clerk_reply::answer`: the parts of the request are those that its definition names. Each need goes back to the lengths and to the start.
use Rattle.clerk_reply.proofs.Lent.{answer_is}
use Rattle.clerk_reply.proofs.answer.Goals as goal

pub returns : goal.returns
returns c = rw (answer_is c.args.request.now c.word_at-limit.ensures c.two_at.ensures.0 c.two_at-2.ensures.0) c.reply.ensures

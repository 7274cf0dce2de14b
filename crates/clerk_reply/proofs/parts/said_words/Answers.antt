-- `clerk_reply::parts::said_words`: what is said is told to seven zeros.
use Rattle.clerk_reply.proofs.parts.said_words.Goals as goal

pub returns : goal.returns
returns c = λ s h. (c.tell.ensures s h).words_are

-- `clerk_reply::kinds::put_hello`: the text is put.
use mathlib.Core.Path.{refl}
use Rattle.paper.specs.Desk.{text}
use Rattle.clerk_reply.specs.Replies.{hello_reply}
use Rattle.clerk_reply.proofs.Replying.{replied}
use Rattle.clerk_reply.proofs.kinds.put_hello.Goals as goal

pub returns : goal.returns
unfolding hello_reply text
returns c = replied {reply = hello_reply} refl refl c.put_text.ensures

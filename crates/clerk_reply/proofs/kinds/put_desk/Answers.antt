-- `clerk_reply::kinds::put_desk`: what is said of the text is put, and its room. Each need goes back to the calls and to the start.
use mathlib.Core.List.{◌++◌}
use mathlib.Core.Path.{◌≡◌}
use native.Mathlib.Omega.{arith}
use lib.Dec.{lit≤}
use lib.ListN.{length}
use Rattle.clerk_words.specs.Words.{words_bytes}
use Rattle.clerk_reply.specs.Replies.{text_length}
use Rattle.clerk_reply.proofs.Replying.{said_long, fits-any, replied}
use Rattle.clerk_reply.proofs.Lent.{text_is}
use Rattle.clerk_reply.proofs.kinds.put_desk.Goals as goal

long : (c : goal.After-put_said-arg-1) → length ((words_bytes c.said_words-said.result ++ c.desk_text.new.room)) ≡ text_length
long c = omega (arith, said_long c.said_words-said.result c.desk_text.new.room)

long-2 : (c : goal.After-slice_known-2-1) → length ((words_bytes c.said_words-said.result ++ c.desk_text.new.room)) ≡ text_length
long-2 c = omega (arith, said_long c.said_words-said.result c.desk_text.new.room)

pub put_said-requires : goal.put_said-requires
put_said-requires c = fits-any (long c) (lit≤ tt) c.requires

pub returns : goal.returns
returns c =
    let e = c.desk_text.ensures in
    replied
    (text_is c.args.sheet.now c.desk_text.result e.said e.kept c.said_words-said.ensures c.written_said.ensures)
    (long-2 c) c.put_said.ensures

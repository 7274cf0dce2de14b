-- `clerk_reply::kinds::put_checked`: what is said of the check is put. Each need goes back to the check and to the start.
use mathlib.Core.Path.{◌≡◌}
use native.Mathlib.Omega.{arith}
use lib.Dec.{lit≤}
use lib.ListN.{length}
use Rattle.clerk_words.specs.Words.{words_bytes}
use Rattle.clerk_words.proofs.Long.{words_long}
use Rattle.clerk_reply.specs.Replies.{said_length}
use Rattle.clerk_reply.proofs.Replying.{fits-any, replied}
use Rattle.clerk_reply.proofs.Lent.{checked_is}
use Rattle.clerk_reply.proofs.kinds.put_checked.Goals as goal

-- what is put: so many bytes
long : (c : goal.After-put_words-arg-1) → length (words_bytes c.nibgravel_check_sheet.new.said) ≡ said_length
long c = omega (arith, words_long c.nibgravel_check_sheet.new.said)

long-2 : (c : goal.After-slice_known-2-1) → length (words_bytes c.nibgravel_check_sheet.new.said) ≡ said_length
long-2 c = omega (arith, words_long c.nibgravel_check_sheet.new.said)

pub put_words-requires : goal.put_words-requires
put_words-requires c = fits-any (long c) (lit≤ tt) c.requires

pub returns : goal.returns
returns c =
    let a = c.args in
    replied (checked_is a.sheet.now a.list.now c.nibgravel_check_sheet.ensures) (long-2 c) c.put_words.ensures

-- `clerk_reply::kinds::put_written`: what is said of the writing is put, and its room. Each need goes back to the writing and to the start.
use mathlib.Core.List.{List, ◌++◌}
use mathlib.Core.Path.{◌≡◌}
use Prim.Native.Nat.{ℕ}
use native.Mathlib.Omega.{arith}
use lib.Dec.{lit≤}
use lib.ListN.{length}
use Rattle.clerk_words.specs.Words.{words_bytes}
use Rattle.clerk_reply.specs.Replies.{written_length}
use Rattle.clerk_reply.proofs.Replying.{said_long, fits-any, replied}
use Rattle.clerk_reply.proofs.Lent.{written_is}
use Rattle.clerk_reply.proofs.kinds.put_written.Goals as goal

-- what is put: so many bytes
abbrev put : goal.After-put_said-arg-1 → List ℕ
put c = words_bytes c.nibgravel_write_sheet.new.said ++ c.nibgravel_write_sheet.new.room

long : (c : goal.After-put_said-arg-1) → length (put c) ≡ written_length
long c = omega (arith, said_long c.nibgravel_write_sheet.new.said c.nibgravel_write_sheet.new.room)

abbrev put-2 : goal.After-slice_known-2-1 → List ℕ
put-2 c = words_bytes c.nibgravel_write_sheet.new.said ++ c.nibgravel_write_sheet.new.room

long-2 : (c : goal.After-slice_known-2-1) → length (put-2 c) ≡ written_length
long-2 c = omega (arith, said_long c.nibgravel_write_sheet.new.said c.nibgravel_write_sheet.new.room)

pub put_said-requires : goal.put_said-requires
put_said-requires c = fits-any (long c) (lit≤ tt) c.requires

pub returns : goal.returns
returns c =
    let a = c.args in
    replied (written_is a.xyz.now a.ends.now c.nibgravel_write_sheet.ensures) (long-2 c) c.put_said.ensures

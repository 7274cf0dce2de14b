-- `clerk_reply::kinds::put_read`: what reading leaves in rooms of zeros is put. Each need goes back to the reading and to the start.
use mathlib.Core.List.{List, ◌++◌}
use mathlib.Core.Path.{◌≡◌}
use Prim.Native.Nat.{ℕ}
use native.Mathlib.Omega.{arith}
use lib.Dec.{lit≤}
use lib.ListN.{length}
use Rattle.clerk_words.specs.Words.{words_bytes, numbers_bytes}
use Rattle.clerk_reply.specs.Replies.{read_length}
use Rattle.clerk_reply.proofs.Replying.{drawing_long, fits-any, replied}
use Rattle.clerk_reply.proofs.Lent.{read_is}
use Rattle.clerk_reply.proofs.kinds.put_read.Goals as goal

-- ---- what is put: so many bytes

abbrev put : goal.After-put_drawing-arg-1 → List ℕ
put c = words_bytes c.nibgravel_read_sheet.new.said ++ numbers_bytes c.nibgravel_read_sheet.new.xyz ++ c.nibgravel_read_sheet.new.ends

long : (c : goal.After-put_drawing-arg-1) → length (put c) ≡ read_length
long c = omega (arith, drawing_long c.nibgravel_read_sheet.new.said c.nibgravel_read_sheet.new.xyz c.nibgravel_read_sheet.new.ends)

abbrev put-2 : goal.After-slice_known-2-1 → List ℕ
put-2 c = words_bytes c.nibgravel_read_sheet.new.said ++ numbers_bytes c.nibgravel_read_sheet.new.xyz ++ c.nibgravel_read_sheet.new.ends

long-2 : (c : goal.After-slice_known-2-1) → length (put-2 c) ≡ read_length
long-2 c = omega (arith, drawing_long c.nibgravel_read_sheet.new.said c.nibgravel_read_sheet.new.xyz c.nibgravel_read_sheet.new.ends)

-- ---- the needs

pub put_drawing-requires : goal.put_drawing-requires
put_drawing-requires c = fits-any (long c) (lit≤ tt) c.requires

pub returns : goal.returns
returns c =
    replied (read_is c.args.sheet.now c.nibgravel_read_sheet.ensures) (long-2 c) c.put_drawing.ensures

-- `clerk_reply::kinds::put_faces`: what is said of the writing is put, and its room, where the solid has two words. Each need goes back to
-- the calls and to the start.
use mathlib.Core.List.{List, ◌++◌}
use mathlib.Core.Path.{◌≡◌, refl, sym, ◌∙◌}
use Prim.Native.Nat.{ℕ}
use native.Mathlib.Omega.{arith}
use lib.Dec.{lit≤}
use lib.ListN.{length}
use Rattle.clerk_words.specs.Words.{words_bytes}
use Rattle.clerk_reply.specs.Replies.{sent_length, sent_reply}
use Rattle.clerk_reply.proofs.Replying.{said_long, fits-any, replied}
use Rattle.clerk_reply.proofs.Lent.{sent_is, faces-none, faces_are}
use Rattle.clerk_reply.proofs.kinds.put_faces.Goals as goal

-- ---- what is put: so many bytes

abbrev put : goal.After-put_said-arg-1 → List ℕ
put c = words_bytes c.nibgravel_write_faces.new.said ++ c.nibgravel_write_faces.new.room

long : (c : goal.After-put_said-arg-1) → length (put c) ≡ sent_length
long c = omega (arith, said_long c.nibgravel_write_faces.new.said c.nibgravel_write_faces.new.room)

abbrev put-2 : goal.After-slice_known-2-1 → List ℕ
put-2 c = words_bytes c.nibgravel_write_faces.new.said ++ c.nibgravel_write_faces.new.room

long-2 : (c : goal.After-slice_known-2-1) → length (put-2 c) ≡ sent_length
long-2 c = omega (arith, said_long c.nibgravel_write_faces.new.said c.nibgravel_write_faces.new.room)

-- ---- the needs

pub returns-then-solid-ne-SOLID_BYTES : goal.returns-then-solid-ne-SOLID_BYTES
returns-then-solid-ne-SOLID_BYTES c =
    let a = c.args in
    (faces-none a.rows.now a.solid.now (λ e. omega (arith, e)), refl)

pub put_said-requires : goal.put_said-requires
put_said-requires c = fits-any (long c) (lit≤ tt) c.requires

pub returns : goal.returns
returns c =
    let a = c.args in
    let r =
    replied
    (faces_are a.rows.now a.solid.now (omega arith)
    ∙ (λ i. sent_reply a.rows.now (sym c.word_at-taken.ensures i) (sym c.word_at-turned.ensures i))
    ∙ sent_is a.rows.now c.word_at-taken.result c.word_at-turned.result c.nibgravel_write_faces.ensures)
    (long-2 c) c.put_said.ensures in
    (omega (arith, r.sized), r)

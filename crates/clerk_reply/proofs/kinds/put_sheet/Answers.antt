-- `clerk_reply::kinds::put_sheet`: the numbers are taken to an array, whose front is written, where they are whole words. Each need goes
-- back to the calls and to the start.
use mathlib.Core.List.{List}
use mathlib.Core.Path.{refl, sym, ap, ◌∙◌}
use Prim.Native.Nat.{◌/◌}
use native.Mathlib.Omega.{arith}
use lib.IntN.{ℤ, pos}
use lib.ListN.{length, replicate}
use lib.Seq.{length-take-le}
use Rattle.clerk_words.specs.Words.{word_size}
use Rattle.clerk_reply.specs.Replies.{written_reply}
use Rattle.clerk_reply.specs.Requests.{most_item}
use Rattle.clerk_reply.proofs.Replying.{replied_as}
use Rattle.clerk_reply.proofs.Lent.{sheet-none, sheet_is, numbers_are}
use Rattle.clerk_reply.proofs.kinds.put_sheet.Goals as goal

pub returns-then-first-ne0 : goal.returns-then-first-ne0
returns-then-first-ne0 c =
    let a = c.args in
    (sheet-none a.first.now a.ends.now (λ e. omega (arith, e)), refl)

pub slice_bounds-put_written-end : goal.slice_bounds-put_written-end
slice_bounds-put_written-end c = sym (length-take-le _ c.take_numbers.new.room (omega arith))

pub returns : goal.returns
returns c =
    let a = c.args in
    let first = a.first.now in
    let ends = a.ends.now in
    let numbers = numbers_are (length first / word_size) first (replicate (most_item / word_size) (pos 0)) c.take_numbers.ensures in (
      omega (arith, c.put_written.ensures.sized),
      replied_as (sheet_is first ends (omega arith) ∙ ap (λ (zs : List ℤ). written_reply zs ends) (sym numbers)) c.put_written.ensures,
    )

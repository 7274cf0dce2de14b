-- `clerk_words::put_numbers`: the loop keeps that some are put, and the others are left. Each need goes back to the loop and to
-- the start.
use mathlib.Core.Path.{◌≡◌, refl, sym, ap, ◌∙◌}
use Prim.Native.Nat.{◌+◌}
use native.Mathlib.Omega.{arith}
use lib.IntN.{ℤ, pos}
use lib.ListN.{get_or}
use Rattle.desk_lines.proofs.Putting.{onward-start, onward-fits, onward_more, onward-end, fits_as, puts_as}
use Rattle.clerk_words.specs.Words.{number_bytes, word_bytes, word_of}
use Rattle.clerk_words.proofs.Each.{each_from, each_next, each_end}
use Rattle.clerk_words.proofs.Signed.{again_is}
use Rattle.clerk_words.proofs.put_numbers.Goals as goal

abbrev read : goal.After-put_word-arg-1 → ℤ
read c = get_or c.args.numbers.now c.loop-number.number-index (pos 0)

bytes_are : (c : goal.After-put_word-arg-1) → word_bytes c.word_of.result ≡ number_bytes (read c)
bytes_are c = ap word_bytes (c.word_of.ensures ∙ ap word_of (again_is (read c) (record { sfits = c.word_of-arg-1.given })))

abbrev read-2 : goal.After-slice_known-in-loop-number-1 → ℤ
read-2 c = get_or c.args.numbers.now c.loop-number.number-index (pos 0)

bytes_are-2 : (c : goal.After-slice_known-in-loop-number-1) → word_bytes c.word_of.result ≡ number_bytes (read-2 c)
bytes_are-2 c = ap word_bytes (c.word_of.ensures ∙ ap word_of (again_is (read-2 c) (record { sfits = c.word_of-arg-1.given })))

-- ---- the needs

pub loop-number-init : goal.loop-number-init
loop-number-init c = onward-start refl

pub word_of-requires : goal.word_of-requires
word_of-requires c = tt

pub put_word-next-requires : goal.put_word-next-requires
put_word-next-requires c =
    let zs = c.args.numbers.now in
    let i = c.loop-number.number-index in
    fits_as (sym (bytes_are c))
    (onward-fits c.loop-number.invariant (each_from number_bytes zs (i + 1)) (each_next number_bytes zs i (pos 0) (omega arith)) c.requires)

pub loop-number-preserved : goal.loop-number-preserved
loop-number-preserved c =
    onward_more c.loop-number.invariant (each_next number_bytes c.args.numbers.now c.loop-number.number-index (pos 0) (omega arith))
    (puts_as (sym (bytes_are-2 c)) c.put_word-next.ensures)

pub returns : goal.returns
returns c =
    onward-end c.loop-number.invariant (each_end number_bytes c.args.numbers.now c.loop-number.number-index (omega arith))

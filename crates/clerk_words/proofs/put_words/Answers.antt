-- `clerk_words::put_words`: the loop keeps that some are put, and the others are left. Each need goes back to the loop and to
-- the start.
use mathlib.Core.Path.{refl}
use Prim.Native.Nat.{◌+◌}
use native.Mathlib.Omega.{arith}
use Rattle.desk_lines.proofs.Putting.{onward-start, onward-fits, onward_more, onward-end}
use Rattle.clerk_words.specs.Words.{word_bytes}
use Rattle.clerk_words.proofs.Each.{each_from, each_next, each_end}
use Rattle.clerk_words.proofs.put_words.Goals as goal

pub loop-word-init : goal.loop-word-init
loop-word-init c = onward-start refl

pub put_word-next-requires : goal.put_word-next-requires
put_word-next-requires c =
    let ws = c.args.words.now in
    onward-fits c.loop-word.invariant (each_from word_bytes ws (c.loop-word.word-index + 1)) (each_next word_bytes ws c.loop-word.word-index 0 (omega arith)) c.requires

pub loop-word-preserved : goal.loop-word-preserved
loop-word-preserved c =
    onward_more c.loop-word.invariant (each_next word_bytes c.args.words.now c.loop-word.word-index 0 (omega arith)) c.put_word-next.ensures

pub returns : goal.returns
returns c =
    onward-end c.loop-word.invariant (each_end word_bytes c.args.words.now c.loop-word.word-index (omega arith))

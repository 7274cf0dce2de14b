-- `clerk_reply::parts::reading_words`: the words of the reading, whose volume is a number. Each need goes back to the reading.
use mathlib.Core.Path.{sym}
use Rattle.clerk_reply.proofs.Reading.{volume-has-bits, words_are}
use Rattle.clerk_reply.proofs.parts.reading_words.Goals as goal

pub float_to_bits-result : goal.float_to_bits-result
float_to_bits-result c = volume-has-bits c.args.c _ (sym c.in-Ok.ensures.result)

pub returns-in-Ok : goal.returns-in-Ok
returns-in-Ok c = words_are c.args.c (sym c.in-Ok.ensures.result)

pub returns-in-Err : goal.returns-in-Err
returns-in-Err c = rw c.from.ensures (words_are c.args.c (sym c.in-Err.ensures.result))

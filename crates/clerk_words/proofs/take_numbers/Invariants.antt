-- `clerk_words::take_numbers`: the loop keeps that the first i numbers are copied to the room. Each need goes back to the loop and to the
-- start.
use Rattle.rooms.proofs.Copying.{Copying}
use Rattle.clerk_words.specs.Words.{numbers_in}
use Rattle.clerk_words.proofs.take_numbers.Given as goal

abbrev pub invariant-loop-i : goal.invariant-loop-i
invariant-loop-i l = Copying l.n (numbers_in l.n l.bytes) l.initial.room l.room l.i

-- `clerk_words::put_numbers`: the loop keeps that some are put, and the others are left. Each need goes back to the loop and to
-- the start.
use Rattle.desk_lines.proofs.Putting.{Onward}
use Rattle.clerk_words.specs.Words.{number_bytes}
use Rattle.clerk_words.proofs.Each.{each_from}
use Rattle.clerk_words.proofs.put_numbers.Given as goal

abbrev pub invariant-loop-number : goal.invariant-loop-number
invariant-loop-number l = Onward (each_from number_bytes l.numbers 0) (each_from number_bytes l.numbers l.number-index) l.initial.room l.at l.room l.next

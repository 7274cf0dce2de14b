-- `clerk_words::put_words`: the loop keeps that some are put, and the others are left. Each need goes back to the loop and to
-- the start.
use Rattle.desk_lines.proofs.Putting.{Onward}
use Rattle.clerk_words.specs.Words.{word_bytes}
use Rattle.clerk_words.proofs.Each.{each_from}
use Rattle.clerk_words.proofs.put_words.Given as goal

abbrev pub invariant-loop-word : goal.invariant-loop-word
invariant-loop-word l = Onward (each_from word_bytes l.words 0) (each_from word_bytes l.words l.word-index) l.initial.room l.at l.room l.next

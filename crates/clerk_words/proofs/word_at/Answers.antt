-- `clerk_words::word_at`: the sum of two halves, as the definition has it.
use Rattle.clerk_words.specs.Words.{word_at}
use borrow.Author.Rules.{rules}
use Rattle.clerk_words.proofs.word_at.Goals as goal

pub returns : goal.returns
unfolding word_at
returns c = search rules

-- What is said, as the code holds it.
use Rattle.std.specs.Prelude.{List, ◌≡◌, ℕ}
use Rattle.paper.specs.Reading as Paper
use Rattle.export_words.specs.Words.{SaidIs}
use Rattle.export_words.specs.declared.words.Said.{Said}
use Rattle.clerk_reply.specs.Replies.{said_words}

-- the seven words, whatever it is that they say
abbrev pub SaidAs : Said → List ℕ → Type 0
SaidAs x words = (s : Paper.Said) → SaidIs x s → words ≡ said_words s

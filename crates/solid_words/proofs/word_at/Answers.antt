-- `solid_words::word_at`: past the end of a list a word is 0.
use mathlib.Core.Path.{sym}
use native.Mathlib.Omega.{arith}
use lib.ListN.{get_or-eq_default}
use Rattle.solid_words.proofs.word_at.Goals as goal

pub returns : goal.returns
returns c = sym (get_or-eq_default c.args.words.now 0 (omega arith))

-- `solid_words::is_in`: the digit is one of the word that it falls in, and past the set's words there is none.
use mathlib.Core.Path.{◌∙◌, sym, ap}
use Prim.Native.Nat.{ℕ, ◌%◌}
use native.Mathlib.Omega.{arith}
use Rattle.sets.specs.Word.{dig, digits}
use Rattle.paper.specs.Numbers.{set_words, word_bits}
use Rattle.paper_laws.proofs.Record.{word-digit, past_digit}
use Rattle.solid_words.proofs.is_in.Goals as goal

pub returns-then-j-ge-SET_WORDS : goal.returns-then-j-ge-SET_WORDS
returns-then-j-ge-SET_WORDS c = let a = c.args in sym (past_digit set_words a.i a.words.now a.k (omega arith))

pub returns : goal.returns
returns c =
    let a = c.args in
    c.is_set.ensures
    ∙ ap (λ (m : ℕ). dig (digits word_bits m) (a.k % word_bits)) c.word_at.ensures
    ∙ sym (word-digit set_words a.i a.words.now a.k (omega arith))

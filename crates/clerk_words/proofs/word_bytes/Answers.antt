-- `clerk_words::word_bytes`: each byte is the one that the definition has at its place. Goes back through the calls.
use mathlib.Core.List.{[], ◌∷◌}
use mathlib.Core.Path.{◌≡◌, sym, ap, ◌∙◌}
use Prim.Native.Nat.{ℕ, ◌/◌, ◌%◌}
use native.Mathlib.Nat.{div-one}
use Rattle.clerk_words.specs.Words.{bytes_of}
use Rattle.clerk_words.proofs.word_bytes.Goals as goal

pub returns : goal.returns
unfolding bytes_of
returns c =
    let w = c.args.word in
    let last : c.low_byte-8.result ≡ w / 1 % 256 = c.low_byte-8.ensures ∙ ap (λ (n : ℕ). n % 256) (sym (div-one w)) in
    λ i. c.low_byte.ensures i ∷ c.low_byte-2.ensures i ∷ c.low_byte-3.ensures i
    ∷ c.low_byte-4.ensures i ∷ c.low_byte-5.ensures i ∷ c.low_byte-6.ensures i
    ∷ c.low_byte-7.ensures i ∷ last i ∷ []

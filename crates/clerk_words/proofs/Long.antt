-- How many bytes words and numbers are.
use mathlib.Core.List.{List}
use mathlib.Core.Path.{◌≡◌, refl}
use Prim.Native.Nat.{ℕ, ◌*◌}
use lib.IntN.{ℤ, pos}
use lib.ListN.{length}
use Rattle.lists.proofs.After.{each_long}
use Rattle.clerk_words.specs.Words.{word_size, bytes_of, word_bytes, words_bytes, number_bytes, numbers_bytes}

pub words_long : (ws : List ℕ) → length (words_bytes ws) ≡ word_size * length ws
unfolding bytes_of
words_long ws = each_long word_bytes word_size 0 ws (λ i h. refl)

pub numbers_long : (zs : List ℤ) → length (numbers_bytes zs) ≡ word_size * length zs
unfolding bytes_of
numbers_long zs = each_long number_bytes word_size (pos 0) zs (λ i h. refl)

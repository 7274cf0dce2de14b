-- docs/PIPE.md: "Words are eight bytes and lengths two, high byte first. A word that stands for a coordinate is its two's complement."
use Rattle.std.specs.Prelude.{cond, ℕ, zero, suc, ◌+◌, ◌-◌, ◌*◌, ◌/◌, ◌%◌, ◌^◌, ◌≤◌, ltb, ℤ, pos, negsuc, length, get_or}
use mathlib.Core.List.{List, [], ◌∷◌, map, flat_map}
use Rattle.lists.specs.Lists.{upto}

abbrev pub word_size : ℕ
word_size = 8

-- ---- as bytes

-- the k lowest bytes of n, the highest of them first
unfoldable pub bytes_of : ℕ → ℕ → List ℕ
bytes_of zero n = []
bytes_of (suc k) n = n / 256 ^ k % 256 ∷ bytes_of k n

abbrev pub word_bytes : ℕ → List ℕ
word_bytes n = bytes_of word_size n

abbrev pub words_bytes : List ℕ → List ℕ
words_bytes ws = flat_map word_bytes ws

-- the two's complement: a number below 0 is as far below 2^64
abbrev pub word_of : ℤ → ℕ
word_of (pos n) = n
word_of (negsuc n) = 2 ^ 64 - suc n

abbrev pub number_bytes : ℤ → List ℕ
number_bytes z = word_bytes (word_of z)

abbrev pub numbers_bytes : List ℤ → List ℕ
numbers_bytes zs = flat_map number_bytes zs

-- ---- back from bytes

-- the number of two, four and eight bytes from a place on: the first half counts for as much as the second can hold
abbrev pub two_at : List ℕ → ℕ → ℕ
two_at bytes at = 256 * get_or bytes at 0 + get_or bytes (at + 1) 0

abbrev pub four_at : List ℕ → ℕ → ℕ
four_at bytes at = 256 ^ 2 * two_at bytes at + two_at bytes (at + 2)

unfoldable pub word_at : List ℕ → ℕ → ℕ
word_at bytes at = 256 ^ 4 * four_at bytes at + four_at bytes (at + 4)

-- the number whose two's complement a word is
abbrev pub number_of : ℕ → ℤ
number_of n = cond (ltb n (2 ^ 63)) (pos n) (negsuc (2 ^ 64 - suc n))

-- number i of bytes, and the first n
abbrev pub number_from : List ℕ → ℕ → ℤ
number_from bytes i = number_of (word_at bytes (word_size * i))

unfoldable pub numbers_in : ℕ → List ℕ → List ℤ
numbers_in n bytes = map (number_from bytes) (upto n)

-- ---- what is asked

-- so many bytes stand from a place on
pub record Stand (k at : ℕ) (bytes : List ℕ) : Type 0 where
  pub stand : at + k ≤ length bytes

-- n numbers are there and there is room for them
pub record NumbersThere (n : ℕ) (bytes : List ℕ) (room : List ℤ) : Type 0 where
  pub there : word_size * n ≤ length bytes
  pub fits : n ≤ length room

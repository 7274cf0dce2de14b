-- What the functions of this crate ask of bytes, places and widths.
use Rattle.std.specs.Prelude.{List, ℕ, ◌+◌, ◌*◌, ◌/◌, ◌^◌, ◌≤◌, ◌<◌, length}

-- a field of width bits that starts at bit i of the bytes s
pub record Field (s : List ℕ) (i width : ℕ) : Type 0 where
  pub narrow : width ≤ 16
  pub inside : i + width ≤ length s * 8

-- width bits above the k lowest of the number x in three bytes
pub record Patch (x k width : ℕ) : Type 0 where
  pub small : x < 2 ^ 24
  pub inside : k + width ≤ 24

-- the bytes s hold the last byte of n bits, and n is so small that sums in the code are
pub record Fill (s : List ℕ) (n : ℕ) : Type 0 where
  pub inside : (n + 7) / 8 ≤ length s
  pub small : n < 2 ^ 31

-- The size of a whole number: `Within n z` says |z| ≤ n.
use Rattle.std.specs.Prelude.{ℕ, ◌≤◌, ℤ, nat_abs}

-- a record, so that n and z are inferred from a proof
pub record Within (n : ℕ) (z : ℤ) : Type 0 where
  pub within : nat_abs z ≤ n

-- A checksum is below a prime.
use Rattle.std.specs.Prelude.{ℕ}

abbrev pub prime : ℕ
prime = 4294967291

-- What the code's searches answer, as the definitions' searches do: the lowest place, or none.
use Rattle.std.specs.Prelude as Std
use Rattle.std.specs.Prelude.{ℕ, Some, None}
use Rattle.std.proofs.Math.Option.{Option, none, some}

abbrev pub found : Std.Option ℕ → Option ℕ
found None = none
found (Some i) = some i

-- `sheet_reader::read::to_coordinate`: a number of 11 bits is small, so the difference fits an `i64`.
use Prim.Native.Nat.{ℕ, ◌<◌, ◌^◌}
use native.Mathlib.Nat.{lt_of_lt_of_le}
use mir.Syntax.{w64}
use mir.Val.{SFits}
use mir.ValLaws.{to_z_pos, to_z-of_z}
use Rattle.paper_laws.proofs.Coordinate.{coordinate_mag}
use Rattle.paper.specs.Format.{coordinate_bits, coordinate}
use native.Mathlib.Omega.{arith}
use Rattle.sheet_reader.proofs.read.to_coordinate.Goals as goal

fits : (n : ℕ) → n < 2 ^ coordinate_bits → SFits w64 (coordinate n)
fits n h = record { sfits = lt_of_lt_of_le (coordinate_mag n (2 ^ coordinate_bits) h (omega arith)) (omega arith) }

pub overflow_sub-result : goal.overflow_sub-result
overflow_sub-result c = rw (to_z_pos w64 c.args.f (omega arith)) (fits c.args.f (omega arith))

pub returns : goal.returns
returns c =
    let n = c.args.f in
    rw (to_z_pos w64 n (omega arith)) (to_z-of_z w64 (coordinate n) (fits n (omega arith)))

-- `sheet_writer::write::to_field`: a coordinate that passes 8 has a small sum with 1,000, which is not below 0.
use mathlib.Core.Path.{◌≡◌, ◌∙◌, ap}
use mathlib.Core.Bool.{false}
use lib.IntN.{ℤ, pos, nat_abs, ◌+ℤ◌}
use mir.Syntax.{w64}
use mir.Val.{to_z, of_z, SFits}
use mir.ValLaws.{to_z-of_z}
use Rattle.paper.specs.Numbers.{farthest}
use Rattle.paper.specs.Sheet.{far}
use Rattle.paper.specs.Format.{on_sheet}
use Rattle.paper_laws.proofs.Coordinate.{near, near_pos}
use native.Mathlib.Omega.{arith}
use Rattle.sheet_writer.proofs.write.to_field.Goals as goal

fits : (z : ℤ) → far z ≡ false → SFits w64 (z +ℤ pos farthest)
fits z h = rw (near_pos z h) (record { sfits = omega (arith, near z h) })

value : (c : goal.Start) → to_z w64 (of_z w64 (to_z w64 (of_z w64 c.args.z) +ℤ pos farthest)) ≡ pos (on_sheet c.args.z)
value c =
    let z = c.args.z in
    rw (to_z-of_z w64 z c.ranges.z) (to_z-of_z w64 (z +ℤ pos farthest) (fits z c.requires) ∙ near_pos z c.requires)

pub overflow_add-result : goal.overflow_add-result
overflow_add-result c = rw (to_z-of_z w64 c.args.z c.ranges.z) (fits c.args.z c.requires)

pub overflow_cast-result : goal.overflow_cast-result
overflow_cast-result c = rw (value c) (tt, omega (arith, near c.args.z c.requires))

pub returns : goal.returns
returns c = ap nat_abs (value c)

-- The six numbers of two points as variables of a formula: a's are 0 to 2, b's 3 to 5.
use mathlib.Core.List.{[], ◌∷◌}
use Prim.Native.Nat.{ℕ}
use Rattle.exact.proofs.Machine.{Every, ◌▸◌, done}
use Rattle.paper.specs.declared.Point.{Point}
use Rattle.polygon.specs.Sizes.{PointsWithin}

abbrev pub both : {n : ℕ} {a b : Point} → PointsWithin n a b → Every n (a.x ∷ a.y ∷ a.z ∷ b.x ∷ b.y ∷ b.z ∷ [])
both h =
    let a = h.a_in in
    let b = h.b_in in
    a.x_in ▸ a.y_in ▸ a.z_in ▸ b.x_in ▸ b.y_in ▸ b.z_in ▸ done

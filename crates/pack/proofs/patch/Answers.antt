-- `pack::patch`: what stands above, the new bits and what stands below are one number again, below 2 ^ 24, so no sum wraps.
use Prim.Native.Nat.{ℕ, ◌+◌, ◌*◌, ◌/◌, ◌%◌, ◌^◌, ◌≤◌, ◌<◌}
use native.Mathlib.Nat.{le-mul_of_pos_right}
use native.Mathlib.Omega.{arith}
use Rattle.pack.proofs.Bytes.{patch_is, patch_lt}
use Rattle.pack.proofs.patch.Goals as goal

-- what stands above the k lowest bits
abbrev Above : goal.After-power-size → ℕ
Above c =
    c.args.x / 2 ^ c.args.k / c.power-size.result * c.power-size.result + c.args.v %
    c.power-size.result

whole : (c : goal.After-power-size) → Above c * c.power-low.result + c.args.x % c.power-low.result < 2 ^ 24
whole c =
    let a = c.args in
    patch_lt a.x a.k a.width a.v c.power-low.ensures.0 c.power-size.ensures.0 24 (omega arith) (omega arith)

part : (c : goal.After-power-size) → Above c ≤ Above c * c.power-low.result
part c = le-mul_of_pos_right (Above c) (omega arith)

pub overflow_mul-result : goal.overflow_mul-result
overflow_mul-result c = omega (arith, whole c, part c)

pub overflow_add-result : goal.overflow_add-result
overflow_add-result c = omega (arith, whole c, part c)

pub overflow_mul-result-2 : goal.overflow_mul-result-2
overflow_mul-result-2 c = omega (arith, whole c)

pub overflow_add-result-2 : goal.overflow_add-result-2
overflow_add-result-2 c = omega (arith, whole c)

pub returns : goal.returns
returns c =
    let a = c.args in
    (patch_is a.x a.k a.width a.v c.power-low.ensures.0 c.power-size.ensures.0, whole c)

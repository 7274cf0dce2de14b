-- `sets::Set::lowest_of`: one less than 2 ^ n has the n lowest bits, and all 64 of them where n is 64.
use mathlib.Core.Path.{◌≡◌, ap}
use Prim.Native.Nat.{ℕ, ◌-◌, ◌^◌}
use native.Mathlib.Omega.{arith}
use lib.Pow.{pow_pos}
use Rattle.sets.specs.Sets.{room}
use Rattle.sets.proofs.Word.{one_shl}
use Rattle.sets.proofs.Sets.{full_is}
use Rattle.sets.proofs.Set.lowest_of.Goals as goal

pub overflow_sub-result : goal.overflow_sub-result
overflow_sub-result c = omega (arith, one_shl room c.args.n c.if-n-lt64.true, pow_pos c.args.n)

pub returns-then-n-lt64 : goal.returns-then-n-lt64
returns-then-n-lt64 c = full_is c.args.n c.requires _ (ap (λ (x : ℕ). x - 1) (one_shl room c.args.n c.if-n-lt64.true))

pub returns : goal.returns
returns c =
    let e : room ≡ c.args.n = omega (arith, c.requires, c.if-n-lt64.false) in
    full_is c.args.n c.requires _ (ap (λ (x : ℕ). 2 ^ x - 1) e)

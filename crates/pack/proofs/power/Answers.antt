-- `pack::power`: a shift by less than 64 loses nothing.
use mathlib.Core.Path.{◌≡◌, ◌∙◌}
use Prim.Native.Nat.{◌%◌, ◌*◌, ◌^◌}
use native.Mathlib.Nat.{one-mul}
use native.Mathlib.Omega.{arith}
use lib.Pow.{shl_exact, pow_pos}
use Rattle.pack.proofs.power.Goals as goal

pub returns : goal.returns
returns c =
    let e : (1 * 2 ^ c.args.k) % 2 ^ 64 ≡ 2 ^ c.args.k = shl_exact 1 c.args.k 64 (omega arith) (omega arith)
    ∙ one-mul (2 ^ c.args.k) in
    (e, rw e (pow_pos c.args.k))

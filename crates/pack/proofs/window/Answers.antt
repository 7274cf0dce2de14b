-- `pack::window`: three bytes make a number below 2 ^ 24, so no sum wraps.
use Prim.Native.Nat.{◌/◌}
use native.Mathlib.Omega.{arith}
use Rattle.pack.proofs.Bytes.{window_is}
use Rattle.pack.proofs.window.Goals as goal

pub returns : goal.returns
returns c =
    let a = c.args in
    (window_is a.s.now (a.i / 8) c.byte.ensures c.byte-2.ensures c.byte-3.ensures, omega arith)

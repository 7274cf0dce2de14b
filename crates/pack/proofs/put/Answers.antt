-- `pack::put`: the three bytes of the patched window are set one by one, and only the field's bits change.
use Prim.Native.Nat.{◌-◌, ◌%◌}
use native.Mathlib.Omega.{arith}
use Rattle.pack.proofs.Bytes.{put_window}
use Rattle.pack.proofs.put.Goals as goal

pub returns : goal.returns
returns c =
    let a = c.args in
    put_window a.s.now a.i a.width (24 - a.i % 8 - a.width) (omega arith) (omega arith) a.v c.window.ensures.0
    c.patch-x.ensures.0
    c.set_byte.ensures
    c.set_byte-2.ensures c.set_byte-3.ensures

-- `pack::field`: a field of up to 16 bits lies within three bytes, so it is the window, shifted, without what stands above.
use Prim.Native.Nat.{◌-◌, ◌%◌}
use native.Mathlib.Omega.{arith}
use Rattle.pack.proofs.Bytes.{field_window}
use Rattle.pack.proofs.field.Goals as goal

pub returns : goal.returns
returns c =
    let a = c.args in
    field_window a.s.now a.i a.width (24 - a.i % 8 - a.width) (omega arith) (omega arith) c.window.ensures.0
    c.power.ensures.0

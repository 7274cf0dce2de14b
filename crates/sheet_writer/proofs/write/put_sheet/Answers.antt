-- `sheet_writer::write::put_sheet`: four calls write one behind the other, the head, the coordinates, the numbers and the fill. What
-- each leaves is the room of the next.
use mathlib.Core.Path.{◌∙◌}
use native.Mathlib.Omega.{arith}
use lib.ListN.{length}
use Rattle.pack.specs.Bits.{run}
use Rattle.sheet_laws.proofs.Encoded.{content_put, encoded}
use Rattle.sheet_writer.proofs.Ready.{Ready, ready}
use Rattle.sheet_writer.proofs.write.put_sheet.Goals as goal

-- what is known of the lists and the room as the call begins
known : (c : goal.After-struct_known-2-1)
    → let a = c.args in Ready a.f a.xyz.now a.ends.now a.v a.e (length a.room.now)
known c = ready c.requires

known-2 : (c : goal.After-put_head-arg-1)
    → let a = c.args in Ready a.f a.xyz.now a.ends.now a.v a.e (length a.room.now)
known-2 c = ready c.requires

known-3 : (c : goal.After-put_coordinates-arg-1)
    → let a = c.args in Ready a.f a.xyz.now a.ends.now a.v a.e (length a.room.now)
known-3 c = ready c.requires

known-4 : (c : goal.After-put_numbers-arg-1)
    → let a = c.args in Ready a.f a.xyz.now a.ends.now a.v a.e (length a.room.now)
known-4 c = ready c.requires

known-5 : (c : goal.After-put_fill-arg-1)
    → let a = c.args in Ready a.f a.xyz.now a.ends.now a.v a.e (length a.room.now)
known-5 c = ready c.requires

known-6 : (c : goal.After-slice_known-5-1)
    → let a = c.args in Ready a.f a.xyz.now a.ends.now a.v a.e (length a.room.now)
known-6 c = ready c.requires

-- ---- the needs

pub total_bits-bits-requires : goal.total_bits-bits-requires
total_bits-bits-requires c = (known c).counts

pub put_head-requires : goal.put_head-requires
put_head-requires c =
    record { narrow = c.requires.narrow; long = omega (arith, known-2 c) }

pub put_coordinates-requires : goal.put_coordinates-requires
put_coordinates-requires c =
    let g = known-3 c in
    record { near = g.in_range; fields = omega (arith, g, c.put_head.auto.room) }

pub put_numbers-requires : goal.put_numbers-requires
put_numbers-requires c =
    let g = known-4 c in
    omega (arith, g, c.put_head.auto.room, c.put_coordinates.auto.room)

pub put_fill-requires : goal.put_fill-requires
put_fill-requires c =
    let lengths = c.put_numbers.auto.room ∙ c.put_coordinates.auto.room ∙ c.put_head.auto.room in
    omega (arith, known-5 c, c.requires.long, c.total_bits-bits.ensures, lengths)

pub returns : goal.returns
returns c =
    let a = c.args in
    let g = known-6 c in
    let lengths =
    c.put_fill.auto.s ∙ c.put_numbers.auto.room ∙ c.put_coordinates.auto.room ∙ c.put_head.auto.room in
    let bits =
    content_put a.f a.xyz.now a.ends.now a.v a.e g.v_three g.e_two (run 8 a.room.now)
    c.total_bits-bits.ensures c.put_head.ensures c.put_coordinates.ensures c.put_numbers.ensures c.put_fill.ensures in
    encoded a.f a.xyz.now a.ends.now g.good c.requires.v_is c.requires.e_is a.room.now c.put_fill.new.s
    c.requires.long lengths (λ i. omega (arith, c.slice_known-1.given i))
    (λ i. omega (arith, c.type_inv.room i)) bits

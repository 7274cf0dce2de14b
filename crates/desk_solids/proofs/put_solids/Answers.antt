-- `desk_solids::put_solids`: the loop keeps that the lines of the first i solids are put, and those of the others are left. Each need goes
-- back to the loop and to the start.
use Prim.Native.Nat.{◌+◌, ◌<◌}
use native.Mathlib.Omega.{arith}
use Rattle.desk_lines.proofs.Putting.{onward-start, onward_long, onward-fits, onward_more, onward-end}
use Rattle.desk_solids.proofs.Lines.{solids_from, solids_start, solids_more, solids_end}
use Rattle.desk_solids.proofs.put_solids.Goals as goal

pub loop-i-init : goal.loop-i-init
loop-i-init c = let a = c.args in onward-start (solids_start a.n a.words.now)

pub put_solid-next-requires : goal.put_solid-next-requires
put_solid-next-requires c =
    let i = c.loop-i.i in
    let h : i < c.args.n = omega arith in
    onward-fits c.loop-i.invariant (solids_from c.args.n c.args.words.now (i + 1))
    (solids_more c.args.n c.args.words.now i h) c.requires.fits

pub loop-i-preserved : goal.loop-i-preserved
loop-i-preserved c =
    let a = c.args in
    onward_more c.loop-i.invariant (solids_more a.n a.words.now c.loop-i.i (omega arith)) c.put_solid-next.ensures

pub shape_of-room : goal.shape_of-room
shape_of-room c = onward_long c.loop-i.invariant

pub returns : goal.returns
returns c =
    let a = c.args in
    onward-end c.loop-i.invariant (solids_end a.n a.words.now c.loop-i.i (omega arith))

-- `desk_solids::put_faces`: the loop keeps that the faces before candidate k are put, and those from it on are left. Each need goes back
-- to the loop and to the start.
use Prim.Native.Nat.{◌+◌, ◌*◌, ◌<◌}
use native.Mathlib.Omega.{arith}
use Rattle.paper.specs.Numbers.{set_words, word_bits}
use Rattle.desk_lines.proofs.Putting.{onward-start, onward_long, onward-fits, onward_more, onward-end}
use Rattle.desk_solids.proofs.Lines.{faces_from, faces-start, faces_more, faces-end}
use Rattle.desk_solids.proofs.put_faces.Goals as goal

pub loop-k-init : goal.loop-k-init
loop-k-init c = let a = c.args in onward-start (faces-start a.solid.now)

pub put_face-next-requires : goal.put_face-next-requires
put_face-next-requires c =
    let k = c.loop-k.k in
    let h : k < word_bits * set_words = omega arith in
    onward-fits c.loop-k.invariant (faces_from c.args.solid.now (k + 1)) (faces_more c.args.solid.now k h) c.requires

pub loop-k-preserved : goal.loop-k-preserved
loop-k-preserved c =
    let a = c.args in
    onward_more c.loop-k.invariant (faces_more a.solid.now c.loop-k.k (omega arith)) c.put_face-next.ensures

pub shape_of-room : goal.shape_of-room
shape_of-room c = onward_long c.loop-k.invariant

pub returns : goal.returns
returns c =
    let a = c.args in
    onward-end c.loop-k.invariant (faces-end a.solid.now c.loop-k.k (omega arith))

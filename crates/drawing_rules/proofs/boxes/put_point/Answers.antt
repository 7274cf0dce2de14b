-- `drawing_rules::boxes::put_point`: each coordinate is stored as it is.
use Prim.Native.Nat.{◌*◌, ◌+◌}
use native.Mathlib.Omega.{arith}
use lib.ListN.{length-set, set}
use Rattle.polygon.proofs.Zeros.{reads_back}
use Rattle.drawing_rules.specs.Boxes.{point_put}
use Rattle.drawing_rules.proofs.boxes.put_point.Goals as goal

pub bounds-list-i-2 : goal.bounds-list-i-2
bounds-list-i-2 c = simp length-set (omega arith)

pub returns : goal.returns
unfolding point_put
returns c =
    let k = c.args.k in
    let p = c.args.p in
    let fits = c.struct_told-3-1.given in
    let x = reads_back p.x fits.0.1 in
    let y = reads_back p.y fits.1.0.1 in
    let z = reads_back p.z fits.1.1.0.1 in
    λ i. set (set (set c.args.list.now (3 * k) (x i)) (3 * k + 1) (y i)) (3 * k + 2) (z i)

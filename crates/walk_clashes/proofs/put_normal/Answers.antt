-- `walk_clashes::put_normal`: three stores, of numbers that the machine keeps.
use native.Mathlib.Omega.{arith}
use Rattle.exact.proofs.Size.{within_up}
use Rattle.walk_clashes.proofs.Normals.{point_put_lem}
use Rattle.walk_clashes.proofs.Parts.{kept}
use Rattle.walk_clashes.proofs.put_normal.Goals as goal

pub returns : goal.returns
returns c =
    let p = c.requires in
    let q = p.small in
    point_put_lem c.args.normals.now c.args.k _ _ _ (omega (arith, p.whole, p.low)) c.args.m (kept (within_up tt q.x_in))
    (kept (within_up tt q.y_in)) (kept (within_up tt q.z_in))

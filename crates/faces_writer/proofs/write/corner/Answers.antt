-- `faces_writer::write::corner`: in order corner j stands at place j; against it the first stays first, and j stands j from the end.
use Prim.Native.Nat.{◌+◌, ◌-◌}
use Rattle.faces_writer.proofs.RowAt.{corner-same, corner-first, corner_back}
use native.Mathlib.Omega.{arith}
use Rattle.faces_writer.proofs.write.corner.Goals as goal

-- ---- the needs

pub overflow_cast-result : goal.overflow_cast-result
overflow_cast-result c = let a = c.args in omega (arith, c.type_inv.rows (a.i + (a.c - a.j)))

pub returns-then-j-gt0 : goal.returns-then-j-gt0
returns-then-j-gt0 c =
    let a = c.args in
    rw c.if-back.true (corner_back a.rows.now a.i a.c c.requires.inside a.j (omega arith) c.requires.known)

pub overflow_cast-result-then-back : goal.overflow_cast-result-then-back
overflow_cast-result-then-back c = omega (arith, c.type_inv.rows c.args.i)

pub returns-then-back : goal.returns-then-back
returns-then-back c =
    let a = c.args in
    rw c.if-back.true (corner-first a.rows.now a.i a.c c.requires.inside a.j (omega arith) c.requires.known)

pub overflow_cast-result-2 : goal.overflow_cast-result-2
overflow_cast-result-2 c = let a = c.args in omega (arith, c.type_inv.rows (a.i + a.j))

pub returns : goal.returns
returns c =
    let a = c.args in
    rw c.if-back.false (corner-same a.rows.now a.i a.c c.requires.inside a.j c.requires.known)

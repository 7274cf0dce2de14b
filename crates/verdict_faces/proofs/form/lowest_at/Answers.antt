-- `verdict_faces::form::lowest_at`: the loop keeps that m is the place of the lowest of the first k corners.
use mathlib.Core.Path.{◌≡◌, ◌∙◌, ap}
use native.Mathlib.Omega.{arith}
use lib.ListN.{length}
use Rattle.paper.specs.FaceList.{row_at}
use Rattle.paper.specs.Verdict.{lowest_at}
use Rattle.verdict_faces.proofs.Turns.{lowest_zero, lowest_new, lowest_kept, face_long}
use Rattle.verdict_faces.proofs.form.lowest_at.Goals as goal
use Rattle.verdict_faces.proofs.form.lowest_at.Goals.{then-table-first, else-table-first}

-- ---- the needs

pub count-n-requires : goal.count-n-requires
count-n-requires c = omega (arith, c.requires.room)

pub overflow_mul-first : goal.overflow_mul-first
overflow_mul-first c = omega (arith, c.requires.room)

pub overflow_add-first : goal.overflow_add-first
overflow_add-first c = omega (arith, c.requires.room)

pub loop-k-init : goal.loop-k-init
loop-k-init c = (lowest_zero _, omega (arith, c.requires.least, c.count-n.ensures))

pub overflow_add-first-in-loop-k : goal.overflow_add-first-in-loop-k
overflow_add-first-in-loop-k c = omega (arith, c.requires.room, c.requires.most, c.count-n.ensures)

pub bounds-table-first : goal.bounds-table-first
bounds-table-first c = omega (arith, c.requires.room, c.requires.most, c.count-n.ensures)

pub overflow_add-first-in-loop-k-2 : goal.overflow_add-first-in-loop-k-2
overflow_add-first-in-loop-k-2 c = omega (arith, c.requires.room, c.requires.most, c.count-n.ensures)

pub bounds-table-first-in-loop-k : goal.bounds-table-first-in-loop-k
bounds-table-first-in-loop-k c = omega (arith, c.requires.room, c.requires.most, c.count-n.ensures)

pub loop-k-preserved : goal.loop-k-preserved
loop-k-preserved c =
    let n = c.count-n.ensures in
    let f = c.requires in
    let e = c.loop-k.invariant.0 in
    elim c.if-table-first.branch [
      | then-table-first y ↦
          (y.m-is ∙ lowest_new f e (omega (arith, n)) (omega (arith, n)) y.if-table-first.true, omega (arith, y.m-is))
      | else-table-first y ↦
          (y.m-is ∙ lowest_kept f e (omega (arith, n)) (omega (arith, n)) y.if-table-first.false, omega (arith, y.m-is))
    ]

pub returns : goal.returns
returns c =
    let f = row_at c.args.table.now c.args.r in
    let k : c.loop-k.k ≡ length f = omega (arith, face_long c.requires, c.count-n.ensures) in
    c.loop-k.invariant.0 ∙ ap (lowest_at f) k

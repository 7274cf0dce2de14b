-- `verdict_faces::number::is_row`: rows of another count are other loops; of one count the loop keeps that what is left of the corners
-- decides.
use mathlib.Core.Path.{◌≡◌, refl}
use native.Mathlib.Omega.{arith}
use Rattle.polygon.specs.Rings.{corner_count}
use Rattle.verdict_faces.proofs.Same.{row_other, row_differs, row_goes_on, row_same}
use Rattle.verdict_faces.proofs.number.is_row.Goals as goal
use Rattle.verdict_faces.proofs.number.is_row.Goals.{Else-count-n}

-- behind the first test the two counts are one
one-count : (c : Else-count-n) → corner_count c.args.rows.now c.args.k ≡ c.count-n.result
one-count c = omega (arith, c.count.ensures, c.if-count-n.false)

-- ---- the needs

pub count-n-requires : goal.count-n-requires
count-n-requires c = omega (arith, c.requires.face.room)

pub count-requires : goal.count-requires
count-requires c = omega (arith, c.requires.there)

pub returns-then-count-n : goal.returns-then-count-n
returns-then-count-n c =
    row_other c.requires c.count-n.ensures (λ e. omega (arith, c.count.ensures, c.if-count-n.true))

pub overflow_mul-first : goal.overflow_mul-first
overflow_mul-first c = omega (arith, c.requires.there)

pub overflow_add-first : goal.overflow_add-first
overflow_add-first c = omega (arith, c.requires.there)

pub loop-i-init : goal.loop-i-init
loop-i-init c = refl

pub corner-requires : goal.corner-requires
corner-requires c =
    let p = c.requires in
    record { face = p.face; way = p.way; below = omega (arith, c.count-n.ensures) }

pub overflow_add-first-in-loop-i : goal.overflow_add-first-in-loop-i
overflow_add-first-in-loop-i c =
    let p = c.requires in
    omega (arith, p.there, p.face.most, c.count-n.ensures)

pub bounds-rows-first : goal.bounds-rows-first
bounds-rows-first c =
    let p = c.requires in
    omega (arith, p.there, p.face.most, c.count-n.ensures)

pub returns-then-corner-rows : goal.returns-then-corner-rows
returns-then-corner-rows c =
    row_differs c.requires c.count-n.ensures (one-count (goal.at.returns-then-corner-rows c).Else-count-n) c.loop-i.i (omega arith)
    c.loop-i.invariant c.corner.ensures c.if-corner-rows.true

pub loop-i-preserved : goal.loop-i-preserved
loop-i-preserved c =
    row_goes_on c.requires c.count-n.ensures (one-count (goal.at.loop-i-preserved c).Else-count-n) c.loop-i.i (omega arith)
    c.loop-i.invariant c.corner.ensures c.if-corner-rows.false

pub returns : goal.returns
returns c =
    row_same c.requires c.count-n.ensures (one-count (goal.at.returns c).Else-count-n) c.loop-i.i (omega arith) c.loop-i.invariant

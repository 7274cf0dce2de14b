-- `verdict_faces::number::number_in`: the loop keeps that the number is k and what is left of the rows.
use native.Mathlib.Omega.{arith}
use Rattle.verdict_faces.proofs.Same.{first-start, first_hit, first_miss, first-end}
use Rattle.verdict_faces.proofs.number.number_in.Goals as goal

pub loop-k-init : goal.loop-k-init
loop-k-init c = first-start _ _ _ _

pub is_row-requires : goal.is_row-requires
is_row-requires c =
    let p = c.requires in
    record { face = p.face; way = p.way; there = omega (arith, p.there) }

pub returns-then-is_row : goal.returns-then-is_row
returns-then-is_row c = first_hit _ _ _ _ c.loop-k.k c.loop-k.invariant (omega arith) c.is_row.ensures c.if-is_row.true

pub loop-k-preserved : goal.loop-k-preserved
loop-k-preserved c = first_miss _ _ _ _ c.loop-k.k c.loop-k.invariant (omega arith) c.is_row.ensures c.if-is_row.false

pub returns : goal.returns
returns c = first-end _ _ _ _ c.loop-k.k c.loop-k.invariant (omega arith)

-- `verdict_faces::take_each`: the loop keeps that the set has the numbers passed, and that none of them was there twice.
use native.Mathlib.Omega.{arith}
use Rattle.verdict_faces.proofs.Passing.{passed_start, passed_hit, passed_more, passed-end}
use Rattle.verdict_faces.proofs.take_each.Goals as goal

-- ---- the needs

pub loop-i-init : goal.loop-i-init
loop-i-init c = λ q. passed_start q c.none-taken.ensures

pub bounds-numbers-i : goal.bounds-numbers-i
bounds-numbers-i c = omega (arith, c.requires.few)

pub has-requires : goal.has-requires
has-requires c =
    omega (arith, c.wide-k.ensures, c.requires.below c.loop-i.i (omega arith))

pub returns-then-has : goal.returns-then-has
returns-then-has c =
    let q = c.requires in
    passed_hit q (c.loop-i.invariant q) (omega arith) c.wide-k.ensures c.has.ensures c.if-has.true

pub with-taken-requires : goal.with-taken-requires
with-taken-requires c =
    omega (arith, c.wide-k.ensures, c.requires.below c.loop-i.i (omega arith))

pub loop-i-preserved : goal.loop-i-preserved
loop-i-preserved c = λ q.
    passed_more q (c.loop-i.invariant q) (omega arith) c.wide-k.ensures c.has.ensures c.if-has.false c.with-taken.ensures

pub returns : goal.returns
returns c = let q = c.requires in passed-end q (c.loop-i.invariant q) (omega arith)

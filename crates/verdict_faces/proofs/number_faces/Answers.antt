-- `verdict_faces::number_faces`: the loop keeps the numbers and the marks of the faces passed, each of which is a candidate.
use borrow.Author.Tests.{not-true, not-false}
use mathlib.Core.Path.{sym, subst}
use Prim.Native.Nat.{◌+◌, ◌<◌}
use native.Mathlib.Omega.{arith}
use lib.ListN.{length, set}
use Rattle.sets.specs.Sets.{Wide}
use Rattle.verdict_faces.proofs.Passing.{Numbered, numbered_start, numbered_hit, numbered_on, numbered_back, numbered_end}
use Rattle.verdict_faces.proofs.number_faces.Goals as goal
use Rattle.verdict_faces.proofs.number_faces.Goals.{then-not-way, else-not-way}

-- ---- the needs

pub loop-i-init : goal.loop-i-init
loop-i-init c = numbered_start _ _ _ _ _ c.requires.few_candidates c.none-against.ensures

pub way_of-way-requires : goal.way_of-way-requires
way_of-way-requires c = c.requires.cornered c.loop-i.i (omega arith)

pub number_in-k-requires : goal.number_in-k-requires
number_in-k-requires c =
    let p = c.requires in
    record {
      face = p.cornered c.loop-i.i (omega arith);
      way = c.way_of-way.ensures;
      there = omega (arith, p.few_candidates, p.rows_long);
    }

pub returns-then-n-k : goal.returns-then-n-k
returns-then-n-k c =
    let s = c.loop-i.invariant in
    record { long = s.long; said = numbered_hit _ _ _ _ s (omega arith) c.number_in-k.ensures (omega (arith, c.if-n-k.true)) }

pub overflow_cast-numbers : goal.overflow_cast-numbers
overflow_cast-numbers c = let p = c.requires in omega (arith, p.few_candidates, c.if-n-k.false)

pub bounds-numbers-i : goal.bounds-numbers-i
bounds-numbers-i c =
    let p = c.requires in
    omega (arith, p.few, p.numbers_long, c.loop-i.invariant.long)

pub with-against-requires : goal.with-against-requires
with-against-requires c =
    let p = c.requires in
    omega (arith, p.few_candidates, c.if-n-k.false)

pub loop-i-preserved : goal.loop-i-preserved
loop-i-preserved c =
    let k = c.number_in-k in
    let a = c.args in
    let p = c.requires in
    let to : Wide → Type 0 = λ u.
    Numbered a.faces.now a.count a.rows.now a.n a.numbers.now (set c.loop-i.numbers c.loop-i.i k.result) u (c.loop-i.i + 1) in
    let o = c.way_of-way.ensures.onward_is in
    let m : k.result < a.n = omega (arith, c.if-n-k.false) in
    let r : c.loop-i.i < length c.loop-i.numbers = omega (arith, p.few, p.numbers_long, c.loop-i.invariant.long) in
    let s = c.loop-i.invariant in
    elim c.if-not-way.branch [
      | then-not-way y ↦
          subst to (sym y.against-is)
          (numbered_back _ _ _ _ s (omega arith) k.ensures m r o (not-true _ y.if-not-way.true) y.with-against.ensures)
      | else-not-way y ↦
          subst to (sym y.against-is) (numbered_on _ _ _ _ s (omega arith) k.ensures m r o (not-false _ y.if-not-way.false))
    ]

pub returns : goal.returns
returns c =
    let s = c.loop-i.invariant in
    record { long = s.long; said = numbered_end _ _ _ _ s (omega arith) }

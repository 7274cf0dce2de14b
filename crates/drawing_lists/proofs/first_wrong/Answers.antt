-- `drawing_lists::first_wrong`: the loop keeps that what is left to search holds the whole answer.
use mathlib.Core.Path.{◌∙◌, sym}
use Prim.Native.Nat.{◌/◌}
use lib.ListN.{length}
use Rattle.lists.proofs.Search.{lowest_start, lowest_hit, lowest_miss, lowest-end}
use Rattle.paper.specs.Sheet.{wrong_at}
use native.Mathlib.Omega.{arith}
use Rattle.drawing_lists.proofs.first_wrong.Goals as goal

pub loop-e-init : goal.loop-e-init
loop-e-init c = (omega arith, omega arith, lowest_start _ _)

pub returns-then-is_wrong : goal.returns-then-is_wrong
unfolding wrong_at
returns-then-is_wrong c =
    sym (lowest_hit _ _ _ (omega arith) c.loop-e.invariant.2 (sym c.is_wrong.ensures ∙ c.if-is_wrong.true))

pub loop-e-preserved : goal.loop-e-preserved
unfolding wrong_at
loop-e-preserved c =
    (omega arith, omega arith, lowest_miss _ _ _ (omega arith) c.loop-e.invariant.2 (sym c.is_wrong.ensures ∙ c.if-is_wrong.false))

pub returns : goal.returns
returns c =
    let a = c.args in
    let l = c.loop-e in
    sym (lowest-end (wrong_at a.v a.ends.now) (length a.ends.now / 2) l.e (omega arith) l.invariant.2)

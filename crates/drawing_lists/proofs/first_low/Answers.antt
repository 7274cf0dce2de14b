-- `drawing_lists::first_low`: the loop keeps that what is left to search holds the whole answer.
use mathlib.Core.Path.{◌∙◌, sym}
use Prim.Native.Nat.{◌/◌}
use lib.ListN.{length}
use Rattle.lists.proofs.Search.{lowest_start, lowest_hit, lowest_miss, lowest-end}
use Rattle.paper.specs.Sheet.{low_at}
use native.Mathlib.Omega.{arith}
use Rattle.drawing_lists.proofs.first_low.Goals as goal

pub loop-e-init : goal.loop-e-init
loop-e-init c = (omega arith, omega arith, lowest_start _ _)

pub returns-then-is_low : goal.returns-then-is_low
returns-then-is_low c =
    sym (lowest_hit _ _ _ (omega arith) c.loop-e.invariant.2 (sym c.is_low.ensures ∙ c.if-is_low.true))

pub loop-e-preserved : goal.loop-e-preserved
loop-e-preserved c =
    (omega arith, omega arith, lowest_miss _ _ _ (omega arith) c.loop-e.invariant.2 (sym c.is_low.ensures ∙ c.if-is_low.false))

pub returns : goal.returns
returns c =
    let ends = c.args.ends.now in
    let l = c.loop-e in
    sym (lowest-end (low_at ends) (length ends / 2) l.e (omega arith) l.invariant.2)

-- `drawing_lists::first_far`: the loop keeps that what is left to search holds the whole answer.
use mathlib.Core.Path.{◌≡◌, ◌∙◌, sym}
use lib.IntN.{ℤ, pos}
use mir.Val.{to_z, of_z}
use mir.Syntax.{w64}
use mir.ValLaws.{to_z-of_z}
use lib.ListN.{length, get_or}
use Rattle.lists.proofs.Search.{lowest_start, lowest_hit, lowest_miss, lowest-end}
use Rattle.paper.specs.Sheet.{far_at}
use native.Mathlib.Omega.{arith}
use Rattle.drawing_lists.proofs.first_far.Goals as goal

-- the coordinate that was read, as it was passed on
abbrev read : goal.Then-is_far → ℤ
read c = get_or c.args.xyz.now c.loop-i.i (pos 0)

same : (c : goal.Then-is_far) → to_z w64 (of_z w64 (read c)) ≡ read c
same c = to_z-of_z w64 (read c) (record { sfits = c.is_far-arg-1.given })

-- the code's test is that of 8
tested : (c : goal.Then-is_far) → far_at c.args.xyz.now c.loop-i.i ≡ c.is_far.result
unfolding far_at
tested c = sym (rw (same c) at c.is_far.ensures)

abbrev read-2 : goal.Else-is_far → ℤ
read-2 c = get_or c.args.xyz.now c.loop-i.i (pos 0)

same-2 : (c : goal.Else-is_far) → to_z w64 (of_z w64 (read-2 c)) ≡ read-2 c
same-2 c = to_z-of_z w64 (read-2 c) (record { sfits = c.is_far-arg-1.given })

tested-2 : (c : goal.Else-is_far) → far_at c.args.xyz.now c.loop-i.i ≡ c.is_far.result
unfolding far_at
tested-2 c = sym (rw (same-2 c) at c.is_far.ensures)

pub loop-i-init : goal.loop-i-init
loop-i-init c = (omega arith, lowest_start _ _)

pub returns-then-is_far : goal.returns-then-is_far
returns-then-is_far c = sym (lowest_hit _ _ _ (omega arith) c.loop-i.invariant.1 (tested c ∙ c.if-is_far.true))

pub loop-i-preserved : goal.loop-i-preserved
loop-i-preserved c = (omega arith, lowest_miss _ _ _ (omega arith) c.loop-i.invariant.1 (tested-2 c ∙ c.if-is_far.false))

pub returns : goal.returns
returns c =
    let xyz = c.args.xyz.now in
    let l = c.loop-i in
    sym (lowest-end (far_at xyz) (length xyz) l.i (omega arith) l.invariant.1)

-- `walk_clashes::folds::may_fold`: a set without its lowest has one fewer, twice.
use mathlib.Core.Path.{◌≡◌}
use Prim.Native.Nat.{suc}
use native.Mathlib.Omega.{arith}
use Rattle.sets.specs.Sets.{size, one_word}
use Rattle.sets.proofs.Sets.{one-word_laws}
use Rattle.walk_state.proofs.Lowest.{drop-one, is_none, is_some}
use Rattle.walk_clashes.proofs.Sharing.{few_shared, two_shared, more_shared}
use Rattle.walk_clashes.proofs.folds.may_fold.Goals as goal

-- one fewer, and one fewer again
one : (c : goal.Then-is_empty-2) → suc (size c.without-more.result) ≡ size c.args.shared
one c = drop-one one-word_laws c.lowest.result (omega arith) c.lowest.ensures.there c.without-more.ensures

one-2 : (c : goal.After-is_empty-then-is_empty-3) → suc (size c.without-more.result) ≡ size c.args.shared
one-2 c = drop-one one-word_laws c.lowest.result (omega arith) c.lowest.ensures.there c.without-more.ensures

two : (c : goal.After-is_empty-then-is_empty-3) → suc (suc (size c.without-third.result)) ≡ size c.args.shared
two c =
    let e = drop-one one-word_laws c.lowest-2.result (omega arith) c.lowest-2.ensures.there c.without-third.ensures in
    omega (arith, e, one-2 c)

one-3 : (c : goal.Else-is_empty-3) → suc (size c.without-more.result) ≡ size c.args.shared
one-3 c = drop-one one-word_laws c.lowest.result (omega arith) c.lowest.ensures.there c.without-more.ensures

two-2 : (c : goal.Else-is_empty-3) → suc (suc (size c.without-third.result)) ≡ size c.args.shared
two-2 c =
    let e = drop-one one-word_laws c.lowest-2.result (omega arith) c.lowest-2.ensures.there c.without-third.ensures in
    omega (arith, e, one-3 c)

pub returns-then-is_empty : goal.returns-then-is_empty
returns-then-is_empty c =
    let a = c.args in
    few_shared (size a.shared) _ (omega (arith, is_none one_word a.shared c.is_empty.ensures c.if-is_empty.true))

pub lowest-requires : goal.lowest-requires
lowest-requires c = is_some one_word c.args.shared c.is_empty.ensures c.if-is_empty.false

pub returns-then-is_empty-2 : goal.returns-then-is_empty-2
returns-then-is_empty-2 c =
    let e = is_none one_word c.without-more.result c.is_empty-2.ensures c.if-is_empty-2.true in
    few_shared (size c.args.shared) _ (omega (arith, e, one c))

pub lowest-requires-2 : goal.lowest-requires-2
lowest-requires-2 c = is_some one_word c.without-more.result c.is_empty-2.ensures c.if-is_empty-2.false

pub returns-then-is_empty-3 : goal.returns-then-is_empty-3
returns-then-is_empty-3 c =
    let e = is_none one_word c.without-third.result c.is_empty-3.ensures c.if-is_empty-3.true in
    two_shared (size c.args.shared) _ (omega (arith, e, two c)) c.is_empty-then-is_empty-3.ensures

pub returns : goal.returns
returns c =
    let e = is_some one_word c.without-third.result c.is_empty-3.ensures c.if-is_empty-3.false in
    more_shared (size c.args.shared) _ (omega (arith, e, two-2 c))

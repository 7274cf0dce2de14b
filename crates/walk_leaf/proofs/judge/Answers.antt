-- `walk_leaf::judge`: the tests in order; each way out is one of the laws.
use mathlib.Core.Path.{◌≡◌}
use Prim.Native.Nat.{◌<◌}
use Rattle.sets.specs.Sets.{wides}
use Rattle.walk_state.proofs.Lowest.{is_none, is_some}
use Rattle.walk_leaf.proofs.Judging.{judge_none, judge_apart, judge_ways, judge_clash, judge_weighed}
use Rattle.walk_leaf.proofs.judge.Goals as goal
use Rattle.walk_leaf.proofs.judge.Goals.{Else-is_empty, Else-not-is_empty}

-- some are taken
some-taken : (c : Else-is_empty) → 0 < wides.size c.args.taken
some-taken c = is_some wides c.args.taken c.is_empty.ensures c.if-is_empty.false

-- all are reached
none-far : (c : Else-not-is_empty) → wides.size c.minus.result ≡ 0
none-far c = is_none wides c.minus.result c.is_empty-2.ensures c.if-not-is_empty.false

pub returns-then-is_empty : goal.returns-then-is_empty
returns-then-is_empty c = judge_none _ _ _ (is_none wides c.args.taken c.is_empty.ensures c.if-is_empty.true)

pub lowest-requires : goal.lowest-requires
lowest-requires c = some-taken c

pub from_face-g-requires : goal.from_face-g-requires
from_face-g-requires c = c.lowest.ensures.narrow

pub returns-then-not-is_empty : goal.returns-then-not-is_empty
returns-then-not-is_empty c =
    judge_apart _ _ _ (some-taken (goal.at.returns-then-not-is_empty c).Else-is_empty) c.lowest.ensures c.from_face-g.ensures
    c.minus.ensures (is_some wides c.minus.result c.is_empty-2.ensures c.if-not-is_empty.true)

pub returns-then-not-oriented : goal.returns-then-not-oriented
returns-then-not-oriented c =
    let at = goal.at.returns-then-not-oriented c in
    judge_ways _ _ _ (some-taken at.Else-is_empty) c.lowest.ensures c.from_face-g.ensures c.minus.ensures
    (none-far at.Else-not-is_empty) c.oriented.ensures c.if-not-oriented.true

pub returns-then-not-clear : goal.returns-then-not-clear
returns-then-not-clear c =
    let at = goal.at.returns-then-not-clear c in
    judge_clash _ _ _ (some-taken at.Else-is_empty) c.lowest.ensures c.from_face-g.ensures c.minus.ensures
    (none-far at.Else-not-is_empty) c.oriented.ensures c.if-not-oriented.false c.clear.ensures c.if-not-clear.true

pub returns : goal.returns
returns c =
    let at = goal.at.returns c in
    judge_weighed _ _ _ (some-taken at.Else-is_empty) c.lowest.ensures c.from_face-g.ensures c.minus.ensures
    (none-far at.Else-not-is_empty) c.oriented.ensures c.if-not-oriented.false c.clear.ensures c.if-not-clear.false
    c.weighed.result c.weighed.ensures

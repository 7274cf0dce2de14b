-- `walk_leaf::oriented`: the loop keeps that the edges from e on give the whole answer.
use mathlib.Core.Path.{refl}
use native.Mathlib.Omega.{arith}
use Rattle.walk_leaf.proofs.Directions.{asking_next, asking_not, asking_end}
use Rattle.walk_leaf.proofs.oriented.Goals as goal

-- ---- the needs

pub loop-e-init : goal.loop-e-init
loop-e-init c = (omega arith, λ masks ups t s q l i j. refl)

pub at-mask-requires : goal.at-mask-requires
at-mask-requires c = let p = c.requires in omega (arith, p)

pub at-requires : goal.at-requires
at-requires c = let p = c.requires in omega (arith, p)

pub returns-then-not-once_each_way : goal.returns-then-not-once_each_way
returns-then-not-once_each_way c =
    let a = c.args in
    asking_not a.on.now a.up.now a.m a.taken a.turned c.loop-e.e c.loop-e.invariant.1 (omega arith)
    c.at-mask.ensures c.at.ensures c.once_each_way.ensures
    (c.if-not-once_each_way.true)

pub loop-e-preserved : goal.loop-e-preserved
loop-e-preserved c =
    let a = c.args in (
      omega arith,
      asking_next a.on.now a.up.now a.m a.taken a.turned c.loop-e.e c.loop-e.invariant.1 (omega arith)
          c.at-mask.ensures c.at.ensures c.once_each_way.ensures
          (c.if-not-once_each_way.false),
    )

pub returns : goal.returns
returns c =
    let a = c.args in
    asking_end a.on.now a.up.now a.m a.taken a.turned c.loop-e.e c.loop-e.invariant.1 (omega (arith, c.loop-e.invariant.0))

-- `walk_leaf::weight`: the loop keeps that the sum so far and the parts left make the whole sum, and that it is small: at most 64 parts.
use mathlib.Core.List.{[], ◌∷◌}
use mathlib.Core.Path.{◌∙◌, ap, sym}
use native.Mathlib.Omega.{arith}
use Prim.Native.Nat.{◌*◌}
use mir.Syntax.{w64}
use mir.Val.{of_z, to_z}
use mir.ValLaws.{of_z-to_z, to_z-of_z}
use mathlib.Core.Path.{refl}
use Rattle.exact.proofs.Machine.{Env, ◌▸◌, asked, done, fits, held, raw, reads}
use Rattle.exact.proofs.Ring.{◌⊕◌, var}
use Rattle.sets.proofs.Laws.{fits-room}
use Rattle.sets.proofs.Sets.{wides_laws}
use Rattle.paper.specs.Numbers.{most_candidates}
use Rattle.walk_tables.specs.Words.{most_part}
use Rattle.walk_leaf.proofs.Sums.{weighing_start, weighing_next, weighing_end, all_small}
use Rattle.walk_leaf.proofs.weight.Goals as goal
use Rattle.walk_leaf.proofs.weight.Goals.{After-part-sum}

-- the sum and a part, as the machine has them
env : (c : After-part-sum)
    → Env (most_candidates * most_part ∷ most_part ∷ []) (c.loop-k.sum-bits ∷ of_z w64 c.part-sum.result ∷ [])
    (c.loop-k.invariant.done ∷ c.part-sum.result ∷ [])
env c =
    let a = c.args in
    let w = c.loop-k.invariant in
    raw (sym (of_z-to_z w64 _ c.loop-k.auto.sum-fits) ∙ w.sum_is) (all_small a.sixes.now a.taken a.turned w)
    (c.part-sum.ensures.small ▸ done)

-- ---- the needs

pub loop-k-init : goal.loop-k-init
loop-k-init c =
    let a = c.args in
    weighing_start a.sixes.now a.taken a.turned (fits-room wides_laws a.taken (omega arith)) refl

pub part-sum-requires : goal.part-sum-requires
part-sum-requires c = record { narrow = c.in-Some.ensures.lowest.narrow; all = c.requires }

pub overflow_add-sum : goal.overflow_add-sum
overflow_add-sum c = asked (env (goal.at.overflow_add-sum c).After-part-sum) (var 0 ⊕ var 1) tt

pub loop-k-preserved : goal.loop-k-preserved
loop-k-preserved c =
    let a = c.args in
    let sum = var 0 ⊕ var 1 in
    let m = env (goal.at.loop-k-preserved c).After-part-sum in
    weighing_next a.sixes.now a.taken a.turned c.loop-k.invariant c.in-Some.ensures c.has.ensures c.part-sum.ensures
    (ap (of_z w64) (ap (to_z w64) (held m sum tt) ∙ to_z-of_z w64 _ (fits m sum tt)))

pub returns : goal.returns
returns c =
    let a = c.args in
    let w = c.loop-k.invariant in
    weighing_end a.sixes.now a.taken a.turned w c.in_default.ensures.0
    (reads (raw (sym (of_z-to_z w64 _ c.loop-k.auto.sum-fits) ∙ w.sum_is) (all_small a.sixes.now a.taken a.turned w) done) (var 0) tt)

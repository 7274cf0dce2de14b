-- `drawing_rules::meets::mark`: the number is put into the set just where it offends.
use mathlib.Core.Bool.{Bool}
use mathlib.Core.Path.{subst, sym}
use Rattle.sets.specs.Sets.{wides}
use Rattle.fast_meets.specs.Pairs.{mark}
use Rattle.drawing_rules.proofs.meets.mark.Goals as goal

pub returns-then-offends : goal.returns-then-offends
unfolding mark
returns-then-offends c = λ w i.
    subst (λ (b : Bool). wides.Is c.with.result (mark b c.args.k w)) (sym c.if-offends.true) (c.with.ensures w i)

pub returns-else-offends : goal.returns-else-offends
unfolding mark
returns-else-offends c = λ w i.
    subst (λ (b : Bool). wides.Is c.args.hit (mark b c.args.k w)) (sym c.if-offends.false) i

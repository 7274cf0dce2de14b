-- `drawing_rules::meets::mark_both`: where neither offends nothing is marked.
use mathlib.Core.Bool.{Bool}
use mathlib.Core.Path.{subst, sym}
use Rattle.lists.proofs.Truth.{or-none}
use Rattle.sets.specs.Sets.{wides}
use Rattle.fast_meets.specs.Pairs.{mark}
use Rattle.drawing_rules.proofs.meets.mark_both.Goals as goal

pub returns-then-not-both : goal.returns-then-not-both
unfolding mark
returns-then-not-both c = λ w i.
    let a = c.args in
    let b = or-none a.both.first a.both.second (c.if-not-both.true) in
    subst (λ (t : Bool). wides.Is a.hit (mark t a.f (mark a.both.first a.e w))) (sym b.1)
    (subst (λ (t : Bool). wides.Is a.hit (mark t a.e w)) (sym b.0) i)

pub returns : goal.returns
returns c = λ w i.
    let a = c.args in
    c.mark-2.ensures (mark a.both.first a.e w) (c.mark.ensures w i)

-- `drawing_rules::meets::lowest`: a set that has none is passed, and the first of any other is the lowest.
use mathlib.Core.List.{[]}
use mathlib.Core.Option.{some}
use mathlib.Core.Path.{◌∙◌, ap, sym}
use native.Mathlib.Omega.{arith}
use lib.ListN.{length}
use Rattle.sets.proofs.Sets.{wides_laws}
use Rattle.paper.specs.Refusals.{EdgeMeets}
use Rattle.paper_laws.proofs.Checks.{clear, passes, stops}
use Rattle.fast_meets.specs.Pairs.{offenders}
use Rattle.fast_meets.proofs.First.{lowest-first, lowest-none}
use Rattle.fast_meets.proofs.Pairs.{offenders-below}
use Rattle.drawing_rules.proofs.meets.lowest.Goals as goal

pub returns-then-count-eq0 : goal.returns-then-count-eq0
returns-then-count-eq0 c = λ d i.
    let n = c.count.ensures.size_is in
    clear ∙ passes EdgeMeets []
    (sym (lowest-none (offenders d) (length d.edges) (omega (arith, n, wides_laws.size_is i, c.if-count-eq0.true))))

pub returns : goal.returns
returns c = λ d i.
    let n = c.count.ensures.size_is in
    let here = lowest-first (offenders d) (length d.edges) (offenders-below d)
    (λ z. omega (arith, z, n, wides_laws.size_is i, c.if-count-eq0.false)) in
    c.refused.ensures ∙ stops EdgeMeets [] (ap some (c.lowest.ensures.same (offenders d) i) ∙ sym here)

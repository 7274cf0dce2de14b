-- `drawing_rules::meets::edge_meets`: the lowest edge that a pair makes offend is the lowest that the rule finds.
use mathlib.Core.List.{[], ◌∷◌}
use mathlib.Core.Option.{Option}
use mathlib.Core.Path.{◌∙◌, ap, sym}
use Prim.Native.Nat.{ℕ}
use Rattle.paper.specs.Drawing.{wire}
use Rattle.paper.specs.Refusals.{check, first_of}
use Rattle.paper.specs.Refusals.{EdgeMeets}
use Rattle.fast_meets.specs.Theorems.{Tied}
use Rattle.fast_meets.proofs.Pairs.{pairs_tell}
use Rattle.drawing_rules.proofs.Meeting.{rising}
use Rattle.drawing_rules.proofs.meets.edge_meets.Goals as goal

pub returns : goal.returns
returns c =
    let d = wire c.args.xyz.now c.args.ends.now in
    let tied : Tied d = record { rising = rising c.requires.lists; places = c.requires.places; tied = c.requires.tied } in
    c.lowest.ensures d c.offenders.ensures ∙ ap (λ (r : Option ℕ). first_of (check EdgeMeets r ∷ [])) (sym (pairs_tell d tied))

-- `measured::measured_rules`: the ends of a drawing in range are few enough for neighbour words, and what the rules answer has a number.
use mathlib.Core.Path.{ap, ◌∙◌}
use Rattle.paper.specs.Reading.{answer_says}
use Rattle.paper.specs.Refusals.{Answer}
use Rattle.drawing_links.proofs.Range.{few_ends}
use Rattle.measured.proofs.measured_rules.Goals as goal

pub neighbours-near-requires : goal.neighbours-near-requires
neighbours-near-requires c = few_ends c.requires

pub returns : goal.returns
returns c = c.number_of.ensures ∙ ap (λ (a : Answer). (answer_says a).number) c.drawing_rules.ensures

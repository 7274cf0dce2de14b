-- `verdict_faces::named`: 21 is what the first pass finds, 22 what the second does; the numbers of the first are what the second asks
-- for.
use Rattle.verdict_faces.proofs.Answers.{answer-21, all_taken, answer-22, answer-are}
use Rattle.verdict_faces.proofs.named.Goals as goal

pub returns-in-Err : goal.returns-in-Err
returns-in-Err c = rw c.refused.ensures (answer-21 c.in-Err.ensures)

pub take_each-requires : goal.take_each-requires
take_each-requires c = all_taken c.requires c.in-Ok.ensures

pub returns-in-Err-take_each : goal.returns-in-Err-take_each
returns-in-Err-take_each c = rw c.refused-in-Err-take_each.ensures (answer-22 c.requires c.in-Ok.ensures c.in-Err-take_each.ensures)

pub returns-in-Ok-take_each : goal.returns-in-Ok-take_each
returns-in-Ok-take_each c = answer-are c.requires c.in-Ok.ensures c.in-Ok-take_each.ensures

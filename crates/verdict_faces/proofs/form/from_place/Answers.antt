-- `verdict_faces::form::from_place`: a place before the last corner is read as it is, one past it from the front.
use Rattle.verdict_faces.proofs.Turns.{read_before, read_past}
use Rattle.verdict_faces.proofs.form.from_place.Goals as goal

pub returns-then-j-n : goal.returns-then-j-n
returns-then-j-n c = read_before c.requires c.count-n.ensures c.if-j-n.true

pub returns : goal.returns
returns c = read_past c.requires c.count-n.ensures c.if-j-n.false

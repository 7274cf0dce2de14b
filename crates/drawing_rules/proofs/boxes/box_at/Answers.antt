-- `drawing_rules::boxes::box_at`: the two corners that are read are the box.
use Rattle.drawing_rules.proofs.boxes.box_at.Goals as goal

pub returns : goal.returns
returns c = λ i. record { low = c.point_at.ensures i; high = c.point_at-2.ensures i }

-- `assess::assess`: the rooms are large enough, and the answer does not go by what they hold.
use mathlib.Core.Path.{ap}
use native.Mathlib.Omega.{arith}
use lib.ListN.{replicate}
use Rattle.paper.specs.Numbers.{face_room, solid_room, documented}
use Rattle.paper.specs.Sheet.{lent_checks}
use Rattle.paper.specs.Drawing.{wire}
use Rattle.paper.specs.Conversion.{Converted, convert_lists}
use Rattle.means_volume.proofs.Reports.{small_enough}
use Rattle.assess.proofs.Rooms.{answer-same, assessed}
use Rattle.assess.proofs.assess.Goals as goal

pub returns : goal.returns
unfolding convert_lists
returns c =
    let a = c.args in
    let form = (lent_checks a.xyz.now a.ends.now) in
    let d = (wire a.xyz.now a.ends.now) in
    assessed (convert_lists a.xyz.now a.ends.now a.limit)
    (λ f s f' s' p q p' q'. answer-same f s f' s' p q p' q' documented form d a.limit) (small_enough.lists_read a.xyz.now a.ends.now a.limit)
    (replicate face_room 0) (replicate solid_room 0) (omega arith) (omega arith)
    (ap (λ (x : Converted). x.answer) c.convert.ensures.result) c.reading.ensures.result c.reading.ensures.said

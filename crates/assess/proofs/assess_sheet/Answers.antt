-- `assess::assess_sheet`: the rooms are large enough, and the answer does not go by what they hold.
use mathlib.Core.Path.{ap}
use native.Mathlib.Omega.{arith}
use lib.ListN.{replicate}
use Rattle.paper.specs.Numbers.{face_room, solid_room, documented}
use Rattle.paper.specs.Format.{coordinates_in, ends_in, edition_of}
use Rattle.paper.specs.Sheet.{sheet_checks}
use Rattle.paper.specs.Drawing.{wire}
use Rattle.paper.specs.Conversion.{Converted, convert_sheet}
use Rattle.means_volume.proofs.Reports.{small_enough}
use Rattle.assess.proofs.Rooms.{answer-same, assessed}
use Rattle.assess.proofs.assess_sheet.Goals as goal

pub returns : goal.returns
unfolding convert_sheet
returns c =
    let a = c.args in
    let form = (sheet_checks (edition_of a.sheet.now) a.sheet.now) in
    let d = (wire (coordinates_in (edition_of a.sheet.now) a.sheet.now) (ends_in (edition_of a.sheet.now) a.sheet.now)) in
    assessed (convert_sheet a.sheet.now a.limit)
    (λ f s f' s' p q p' q'. answer-same f s f' s' p q p' q' documented form d a.limit) (small_enough.sheets_read a.sheet.now a.limit)
    (replicate face_room 0) (replicate solid_room 0) (omega arith) (omega arith)
    (ap (λ (x : Converted). x.answer) c.convert_sheet.ensures.result) c.reading.ensures.result c.reading.ensures.said

-- trial_geometry/proofs/show/Answers.antt
-- `trial_geometry::show`: a sheet that the reader accepts holds a drawing in range.
use Rattle.std.proofs.Common.{sym, ap, subst}
use Rattle.paper_laws.specs.InRange.{Held}
use Rattle.paper.specs.Sheet.{Sheet}
use Rattle.sheet_reader.proofs.Range.{read_range}
use Rattle.trial_geometry.proofs.show.Goals as goal

pub show_drawing-requires : goal.show_drawing-requires
show_drawing-requires c =
    let e = c.in-Ok.ensures.result in
    subst (λ (r : Sheet). Held r.drawing) (sym e) (read_range _ (ap (λ (r : Sheet). r.answer) e))

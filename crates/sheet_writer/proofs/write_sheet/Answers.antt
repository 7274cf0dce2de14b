-- `sheet_writer::write_sheet`: the writer, in the edition of the drawing, which is narrow.
use mathlib.Core.Path.{◌∙◌, ap}
use Rattle.paper.specs.Format.{lent_edition}
use Rattle.paper.specs.Reading.{written_says}
use Rattle.paper.specs.Sheet.{written_of, room_of}
use Rattle.paper.specs.declared.Format.{Format}
use Rattle.sheet_laws.proofs.Said.{sheet_written_said}
use Rattle.sheet_shape.proofs.Sizes.{narrow_for}
use Rattle.sheet_writer.proofs.write_sheet.Goals as goal

pub write-requires : goal.write-requires
write-requires c = rw c.edition_for-f.ensures (narrow_for _ _)

pub returns : goal.returns
returns c =
    let a = c.args in
    let one = c.edition_for-f.ensures in
    let is = c.write.ensures.answer ∙ ap (λ (f : Format). written_of f a.xyz.now a.ends.now a.room.now) one in record {
      answer = is;
      said = ap written_says is ∙ sheet_written_said (lent_edition a.xyz.now a.ends.now) a.xyz.now a.ends.now a.room.now;
      kept = c.write.ensures.kept ∙ ap (λ (f : Format). room_of f a.xyz.now a.ends.now a.room.now) one;
    }

-- `faces_writer::write_faces`: it is `write` in the drawing's edition.
use mathlib.Core.Path.{◌∙◌, ap}
use Rattle.paper.specs.Format.{edition_for}
use Rattle.paper.specs.FaceList.{solid_faces, sent_of, sent_room}
use Rattle.paper.specs.Reading.{written_says}
use Rattle.paper.specs.declared.Format.{Format}
use Rattle.faces_laws.proofs.Said.{sent-said}
use Rattle.faces_reader.proofs.Brief.{brief_for}
use Rattle.faces_writer.proofs.write_faces.Goals as goal

pub write-requires : goal.write-requires
write-requires c = rw c.edition_for.ensures (brief_for _ _)

pub returns : goal.returns
returns c =
    let a = c.args in
    let fs = solid_faces a.rows.now a.solid.now in
    let is = c.write.ensures.answer ∙ ap (λ (f : Format). sent_of f fs a.room.now) c.edition_for.ensures in record {
      answer = is;
      said = ap written_says is ∙ sent-said (edition_for a.vertices a.edges) fs a.room.now;
      kept = c.write.ensures.kept ∙ ap (λ (f : Format). sent_room f fs a.room.now) c.edition_for.ensures;
    }

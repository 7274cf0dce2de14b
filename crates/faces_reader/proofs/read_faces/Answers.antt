-- `faces_reader::read_faces`: it is `read` in the edition that the list says.
use mathlib.Core.Path.{◌∙◌, ap}
use Rattle.paper.specs.Format.{edition_of}
use Rattle.paper.specs.FaceList.{faces_of}
use Rattle.paper.specs.Reading.{answer_says}
use Rattle.paper.specs.declared.Format.{Format}
use Rattle.paper.specs.FaceList.{Faces}
use Rattle.faces_laws.proofs.Said.{faces-said}
use Rattle.faces_reader.proofs.Brief.{brief_of}
use Rattle.faces_reader.proofs.read_faces.Goals as goal

pub read-requires : goal.read-requires
read-requires c = rw c.edition_of.ensures (brief_of _)

pub returns : goal.returns
returns c =
    let a = c.args in
    let is = c.read.ensures ∙ ap (λ (f : Format). faces_of f a.vertices a.list.now) c.edition_of.ensures in
    record {
      result = is;
      said = ap (λ (r : Faces). answer_says r.answer) is ∙ faces-said (edition_of a.list.now) a.vertices a.list.now;
    }

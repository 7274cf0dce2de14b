-- `faces_reader::read_sent`: it is `read` in the edition of the drawing.
use mathlib.Core.Path.{◌∙◌, ap}
use Rattle.paper.specs.FaceList.{faces_of}
use Rattle.paper.specs.declared.Format.{Format}
use Rattle.faces_reader.proofs.Brief.{brief_for}
use Rattle.faces_reader.proofs.read_sent.Goals as goal

pub read-requires : goal.read-requires
read-requires c = rw c.edition_for.ensures (brief_for _ _)

pub returns : goal.returns
returns c =
    let a = c.args in
    c.read.ensures ∙ ap (λ (f : Format). faces_of f a.vertices a.list.now) c.edition_for.ensures

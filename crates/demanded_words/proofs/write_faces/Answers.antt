-- `demanded_words::write_faces`: its contract is what demand 1 is proved of.
use Rattle.paper.specs.FaceList.{solid_faces}
use Rattle.demanded_words.proofs.Demanding.{sends}
use Rattle.demanded_words.proofs.write_faces.Goals as goal

pub returns : goal.returns
returns c =
    let a = c.args in
    sends a.vertices a.edges (solid_faces a.rows.now a.solid.now) a.room.now c.nibgravel_write_faces.ensures

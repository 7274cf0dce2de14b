-- `demanded::read_faces`: its contract is what demand 1 is proved of.
use Rattle.demanded.proofs.Demanding.{reads_faces}
use Rattle.demanded.proofs.read_faces.Goals as goal

pub returns : goal.returns
returns c =
    let a = c.args in
    reads_faces a.vertices a.list.now c.read_faces.ensures.result

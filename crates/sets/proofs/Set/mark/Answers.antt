-- `sets::Set::mark`: 1, shifted by i, has the one bit of i, which the word at place k then has too.
use Rattle.sets.specs.Sets.{room}
use Rattle.sets.proofs.Word.{one_shl}
use Rattle.sets.proofs.Sets.{marked-at}
use Rattle.sets.proofs.Set.mark.Goals as goal

pub returns : goal.returns
returns c =
    let a = c.args in
    marked-at a.words.now a.k a.i _ c.requires.0 (one_shl room a.i c.requires.1)

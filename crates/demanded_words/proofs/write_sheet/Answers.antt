-- `demanded_words::write_sheet`: its contract is what demands 1 and 2 are proved of.
use Rattle.demanded_words.proofs.Demanding.{writes}
use Rattle.demanded_words.proofs.write_sheet.Goals as goal

pub returns : goal.returns
returns c =
    let a = c.args in
    writes a.xyz.now a.ends.now a.room.now c.nibgravel_write_sheet.ensures

-- `demanded::write_sheet`: its contract is what demands 1 and 2 are proved of.
use Rattle.demanded.proofs.Demanding.{writes}
use Rattle.demanded.proofs.write_sheet.Goals as goal

pub returns : goal.returns
returns c =
    let a = c.args in
    writes a.xyz.now a.ends.now a.room.now c.write_sheet.ensures.answer c.write_sheet.ensures.kept

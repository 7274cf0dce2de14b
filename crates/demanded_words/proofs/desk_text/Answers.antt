-- `demanded_words::desk_text`: its contract is what demands 1 and 2 are proved of.
use Rattle.demanded_words.proofs.Printed.{prints}
use Rattle.demanded_words.proofs.desk_text.Goals as goal

pub returns : goal.returns
returns c =
    let a = c.args in
    prints a.sheet.now c.desk_text.ensures.answer c.desk_text.ensures.kept

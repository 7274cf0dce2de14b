-- `demanded::reading`: its contract is what demand 1 is proved of.
use Rattle.demanded.proofs.Demanding.{read_as}
use Rattle.demanded.proofs.reading.Goals as goal

pub returns : goal.returns
returns c = read_as c.args.c c.reading.ensures.result

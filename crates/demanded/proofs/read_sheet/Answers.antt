-- `demanded::read_sheet`: its contract is what demands 1 and 2 are proved of.
use native.Mathlib.Omega.{arith}
use Rattle.demanded.proofs.Demanding.{reads}
use Rattle.demanded.proofs.read_sheet.Goals as goal

pub returns : goal.returns
returns c =
    reads c.args.sheet.now (λ i. omega (arith, c.type_inv.sheet i)) c.read_sheet.ensures.result

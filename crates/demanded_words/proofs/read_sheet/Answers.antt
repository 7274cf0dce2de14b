-- `demanded_words::read_sheet`: its contract is what demands 1 and 2 are proved of.
use native.Mathlib.Omega.{arith}
use Rattle.pack.specs.Bits.{Under}
use Rattle.demanded_words.proofs.Lists.{reads}
use Rattle.demanded_words.proofs.read_sheet.Goals as goal

pub returns : goal.returns
returns c =
    let a = c.args in
    let bytes : Under 256 a.sheet.now = λ i. omega (arith, c.type_inv.sheet i) in
    reads a.sheet.now bytes a.xyz.now a.ends.now c.nibgravel_read_sheet.ensures

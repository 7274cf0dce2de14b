-- `clash_pierce::size`: a number below 0 turns its sign, and any other is its own size.
use mathlib.Core.Path.{◌∙◌}
use lib.IntN.{pos}
use Rattle.exact.proofs.Machine.{◌▸◌, asked, done, lit, lt_left, lt_taken, plain, reads}
use Rattle.exact.proofs.Ring.{neg, var}
use Rattle.polygon.proofs.Zeros.{neg_abs, same_abs}
use Rattle.clash_pierce.proofs.size.Goals as goal

pub overflow_sub-result : goal.overflow_sub-result
overflow_sub-result c = asked (c.requires ▸ done) (neg (var 0)) tt

pub returns-then-z-lt0 : goal.returns-then-z-lt0
returns-then-z-lt0 c =
    reads (c.requires ▸ done) (neg (var 0)) tt ∙ neg_abs (lt_taken (plain c.ranges.z) (lit (pos 0) tt) c.if-z-lt0.true)

pub returns-else-z-lt0 : goal.returns-else-z-lt0
returns-else-z-lt0 c =
    let z = plain c.ranges.z in
    z.reading ∙ same_abs (lt_left z (lit (pos 0) tt) c.if-z-lt0.false)

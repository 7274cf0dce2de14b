-- `export_words::lent::handed`: each way out knows the lengths of the lists that were tested. Its three ways out are three laws.
use native.Mathlib.Omega.{arith}
use Rattle.export_words.proofs.Handing.{points_short, links_short, both-handed}
use Rattle.export_words.proofs.lent.handed.Goals as goal

pub overflow_mul-m : goal.overflow_mul-m
overflow_mul-m c = omega (arith, c.requires.most)

pub overflow_mul-n : goal.overflow_mul-n
overflow_mul-n c = omega (arith, c.requires.few)

pub returns-then-xyz-m : goal.returns-then-xyz-m
returns-then-xyz-m c =
    let a = c.args in
    points_short a.d c.requires a.xyz.now a.ends.now c.tell.ensures c.if-xyz-m.true c.refusal_said-short.ensures

pub returns-then-ends-n : goal.returns-then-ends-n
returns-then-ends-n c =
    let a = c.args in
    links_short a.d c.requires a.xyz.now a.ends.now c.tell-then-ends-n.ensures c.if-xyz-m.false c.if-ends-n.true c.refusal_said-short-then-ends-n.ensures

pub returns : goal.returns
returns c =
    let a = c.args in
    both-handed a.d c.requires a.xyz.now a.ends.now c.tell-2.ensures c.if-xyz-m.false c.if-ends-n.false
    c.copy.ensures c.copy-2.ensures c.counts_said.ensures

-- `faces_writer::write::weigh_all`: the loop keeps that what the candidates before k weigh and what the rest weighs is the whole.
use Rattle.faces_writer.proofs.Weight.{weigh_start, weigh_next, weigh_stop, weigh_end, one_small}
use native.Mathlib.Omega.{arith}
use Rattle.faces_writer.proofs.write.weigh_all.Goals as goal

pub loop-k-init : goal.loop-k-init
loop-k-init c = let a = c.args in weigh_start a.f a.rows.now a.solid.now

pub weigh-requires : goal.weigh-requires
weigh-requires c = record { brief = c.requires; known = omega arith }

pub returns-in_err-one : goal.returns-in_err-one
returns-in_err-one c =
    let a = c.args in
    let l = c.loop-k in
    rw c.from_residual.ensures
    (weigh_stop a.f a.rows.now a.solid.now l.k l.faces l.bits (omega arith) l.invariant c.in_err-one.ensures)

pub overflow_add-faces : goal.overflow_add-faces
overflow_add-faces c = omega (arith, one_small c.args.f c.args.rows.now c.args.solid.now c.requires c.loop-k.k c.in_ok-one.ensures)

pub overflow_add-bits : goal.overflow_add-bits
overflow_add-bits c = omega (arith, one_small c.args.f c.args.rows.now c.args.solid.now c.requires c.loop-k.k c.in_ok-one.ensures)

pub loop-k-preserved : goal.loop-k-preserved
loop-k-preserved c =
    let a = c.args in
    let l = c.loop-k in
    weigh_next a.f a.rows.now a.solid.now l.k l.faces l.bits (omega arith) l.invariant c.requires c.in_ok-one.ensures

pub returns : goal.returns
returns c =
    let a = c.args in
    let l = c.loop-k in
    weigh_end a.f a.rows.now a.solid.now l.k l.faces l.bits (omega arith) l.invariant

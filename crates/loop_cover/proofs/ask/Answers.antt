-- `loop_cover::ask`: the loop keeps that what is left of the open edges has the whole answer.
use Rattle.loop_cover.proofs.Asking.{asking_start, asking_edge, asking_hit, asking_miss, asking_end}
use Rattle.loop_cover.proofs.ask.Goals as goal

pub loop-e-init : goal.loop-e-init
loop-e-init c =
    let a = c.args in
    asking_start a.xyz.now a.ends.now a.table.now a.k a.edges a.f c.minus-open.ensures

pub is_outside-requires : goal.is_outside-requires
is_outside-requires c =
    let a = c.args in
    let p = c.requires in
    record {
      range = p.range;
      face = p.face;
      known =
          asking_edge a.xyz.now a.ends.now a.table.now a.k a.edges a.f c.loop-e.invariant c.in-Some.ensures p.mask_is p.stands;
    }

pub returns-then-is_outside : goal.returns-then-is_outside
returns-then-is_outside c =
    let a = c.args in
    asking_hit a.xyz.now a.ends.now a.table.now a.k a.edges a.f c.loop-e.invariant c.in-Some.ensures c.if-is_outside.ensures
    c.with.ensures

pub loop-e-preserved : goal.loop-e-preserved
loop-e-preserved c =
    let a = c.args in
    asking_miss a.xyz.now a.ends.now a.table.now a.k a.edges a.f c.loop-e.invariant c.in-Some.ensures c.if-is_outside.ensures
    c.with-held.ensures

pub returns : goal.returns
returns c =
    let a = c.args in
    asking_end a.xyz.now a.ends.now a.table.now a.k a.edges a.f c.loop-e.invariant c.in_default.ensures.0

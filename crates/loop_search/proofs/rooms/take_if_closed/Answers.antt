-- `loop_search::rooms::take_if_closed`: the last vertex is among those where a loop may end, or it isn't.
use Prim.Native.Nat.{◌-◌}
use native.Mathlib.Omega.{arith}
use Rattle.loop_search.proofs.Takes.{ended_yes, ended_no}
use Rattle.loop_search.proofs.rooms.take_if_closed.Goals as goal

-- ---- the needs

pub has-requires : goal.has-requires
has-requires c =
    let p = c.requires.path_at in
    let low = p.low (c.args.len - 1) (omega (arith, p.some)) in
    omega (arith, low, c.wide.ensures)

pub returns-then-has : goal.returns-then-has
returns-then-has c =
    ended_yes c.requires c.args.closing c.args.plane c.wide.result c.has.result c.wide.ensures c.has.ensures
    c.if-has.true c.take_in.ensures

pub returns : goal.returns
returns c =
    ended_no c.requires c.args.closing c.args.plane c.wide.result c.has.result c.wide.ensures c.has.ensures
    c.if-has.false

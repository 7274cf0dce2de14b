-- `loop_search::paths::onward`: the last vertex's word of neighbours, and those of them that are free.
use Prim.Native.Nat.{◌-◌}
use native.Mathlib.Omega.{arith}
use Rattle.loop_search.proofs.Deeper.{onward_is}
use Rattle.loop_search.proofs.paths.onward.Goals as goal

pub at-all-requires : goal.at-all-requires
at-all-requires c =
    let p = c.requires in
    let low = p.low (c.args.len - 1) (omega (arith, p.some)) in
    omega (arith, low, c.wide.ensures)

pub returns : goal.returns
returns c =
    onward_is c.args.near.now c.args.path.now c.args.len c.requires c.wide.ensures c.at-all.ensures c.and.ensures

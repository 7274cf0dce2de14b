-- `loop_search::search`: the loop keeps that the rooms hold the loops of the starts gone through.
use native.Mathlib.Omega.{arith}
use Rattle.loop_search.specs.Rooms.{rooms}
use Rattle.loop_search.proofs.Whole.{searching_start, searching_next, searching_end}
use Rattle.loop_search.proofs.search.Goals as goal

pub loop-s-init : goal.loop-s-init
loop-s-init c =
    let a = c.args in
    searching_start a.xyz.now a.near.now a.v (rooms a.table.now a.planes.now 0)
    c.requires.sized

pub starting_at-c-requires : goal.starting_at-c-requires
starting_at-c-requires c =
    let g = c.requires in
    record { sized = c.loop-s.invariant.sized; points = g.points; few = g.few; empty = c.loop-s.invariant.empty; s_in = omega arith }

pub loop-s-preserved : goal.loop-s-preserved
loop-s-preserved c =
    searching_next c.requires.points c.loop-s.invariant (omega arith) c.starting_at-c.ensures

pub returns : goal.returns
returns c =
    searching_end c.requires c.args.near.now c.loop-s.invariant (omega arith)

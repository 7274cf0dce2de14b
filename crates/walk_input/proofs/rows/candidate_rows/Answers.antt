-- `walk_input::rows::candidate_rows`: what is known of all loops is what the candidates ask for.
use mathlib.Core.Path.{sym}
use native.Mathlib.Omega.{arith}
use Rattle.loop_known.specs.Known.{LoopsKnown}
use Rattle.walk_input.proofs.rows.candidate_rows.Goals as goal

-- what is known of the loops
known : (c : goal.Then-loops-gt-MOST_LOOPS)
    → let a = c.args in
    let l = c.known_loops-loops.new in
    LoopsKnown a.xyz.now a.ends.now c.known_loops-loops.result l.table l.planes l.corners l.sides
known c = c.known_loops-loops.ensures c.args.ends.now c.requires.drawn

known-2 : (c : goal.After-table-2-1)
    → let a = c.args in
    let l = c.known_loops-loops.new in
    LoopsKnown a.xyz.now a.ends.now c.known_loops-loops.result l.table l.planes l.corners l.sides
known-2 c = c.known_loops-loops.ensures c.args.ends.now c.requires.drawn

known-3 : (c : goal.After-candidates-arg-3-1)
    → let a = c.args in
    let l = c.known_loops-loops.new in
    LoopsKnown a.xyz.now a.ends.now c.known_loops-loops.result l.table l.planes l.corners l.sides
known-3 c = c.known_loops-loops.ensures c.args.ends.now c.requires.drawn

known-4 : (c : goal.After-candidates-n)
    → let a = c.args in
    let l = c.known_loops-loops.new in
    LoopsKnown a.xyz.now a.ends.now c.known_loops-loops.result l.table l.planes l.corners l.sides
known-4 c = c.known_loops-loops.ensures c.args.ends.now c.requires.drawn

-- ---- the needs

pub returns-then-loops-gt-MOST_LOOPS : goal.returns-then-loops-gt-MOST_LOOPS
returns-then-loops-gt-MOST_LOOPS c = record { loops_are = (known c).count; kept = λ h. absurd (omega (arith, c.if-loops-gt-MOST_LOOPS.true)) }

pub slice_bounds-candidates-end : goal.slice_bounds-candidates-end
slice_bounds-candidates-end c = sym (known-2 c).roomy.table_long

pub candidates-n-requires : goal.candidates-n-requires
candidates-n-requires c =
    let p = c.requires in
    record {
      known = (known-3 c).known (omega arith);
      row_room = p.row_room;
      corner_room = p.corner_room;
      side_room = p.side_room;
    }

pub returns : goal.returns
returns c = record { loops_are = (known-4 c).count; kept = λ h. c.candidates-n.ensures }

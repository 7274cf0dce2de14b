-- `loop_known::known_loops`: what the search and the words ensure, for the drawing that the lists are of.
use Prim.Native.Nat.{◌≤◌}
use native.Mathlib.Omega.{arith}
use Rattle.paper.specs.Numbers.{most_loops}
use Rattle.paper.specs.Drawing.{wire}
use Rattle.loop_known.proofs.Loops.{points_in_lem, few_vertices_lem, clear, too_many, drawn, all_known}
use Rattle.loop_known.proofs.known_loops.Goals as goal

-- ---- the needs

pub search-n-requires : goal.search-n-requires
search-n-requires c =
    let g = c.requires in
    record {
      points = points_in_lem g.drawn;
      few = few_vertices_lem g.drawn;
      sized = record { table_long = g.roomy.table_long; planes_long = g.roomy.planes_long; most = omega arith };
    }

pub returns-then-n-gt-MOST_LOOPS : goal.returns-then-n-gt-MOST_LOOPS
returns-then-n-gt-MOST_LOOPS c ends a =
    let r = c.args in
    too_many a c.requires.roomy (c.search-n.ensures (wire r.xyz.now ends) (clear a)) (omega arith)

pub loop_words-requires : goal.loop_words-requires
loop_words-requires c =
    let g = c.requires in
    record {
      drawn = drawn g.drawn g.roomy (c.search-n.ensures (wire c.args.xyz.now g.ends) (clear g.drawn)) (omega arith);
      corner_room = omega (arith, g.roomy.corners_long);
      side_room = omega (arith, g.roomy.sides_long);
    }

pub returns : goal.returns
returns c ends a =
    let r = c.args in
    let f = c.search-n.ensures (wire r.xyz.now ends) (clear a) in
    let few : c.search-n.result ≤ most_loops = omega arith in
    let room = c.requires.roomy in
    all_known a room f few c.loop_words.new.corners c.loop_words.new.sides (c.loop_words.ensures (drawn a room f few))

-- `walk_edges::edge_words`: the loop keeps that the words have the first k candidates.
use mathlib.Core.List.{List}
use mathlib.Core.Path.{◌≡◌, refl, ◌∙◌}
use Prim.Native.Nat.{◌<◌, ◌≤◌, ℕ}
use native.Mathlib.Omega.{arith}
use lib.ListN.{length}
use Rattle.paper.specs.Numbers.{most_candidates}
use Rattle.paper.specs.Drawing.{edge}
use Rattle.paper.specs.Loops.{loop_at}
use Rattle.paper.specs.Solids.{has, runs_up, tables_of}
use Rattle.fast_tables.specs.Hits.{side_mask}
use Rattle.loop_table.proofs.Rows.{rows_room, count_is, vertex_is}
use Rattle.walk_edges.specs.Marks.{RowOf, DrawnCandidates, up_mask}
use Rattle.walk_edges.proofs.Columns.{columns_none, columns_more, columns_all}
use Rattle.walk_edges.proofs.edge_words.Goals as goal

-- row k of the table is candidate k
unfoldable row_of : {rows : List ℕ} {n : ℕ} {number : List ℕ} (w : DrawnCandidates rows n number) (k : ℕ) → k < n → RowOf rows k number
row_of {rows} w k h =
    let i : k < length w.loops = omega (arith, w.count) in
    let short = w.of.short in
    record {
      drawn =
          record {
            drawing = w.drawing;
            small = w.small;
            loop = loop_at w.loops k;
            path = w.of.path k i;
            short = short k i;
            room = omega (arith, rows_room rows w.loops w.held short);
            count = count_is rows w.loops w.held short k i;
            vertex = vertex_is rows w.loops w.held short k i;
          };
      upward = w.upward;
      few = omega (arith, w.most);
    }

-- ---- the needs

pub loop-k-init : goal.loop-k-init
loop-k-init c w =
    record {
      not_past = omega arith;
      on_in = columns_none (side_mask w.drawing) w.loops c.args.on.now c.requires.on_clear.none;
      up_in = columns_none (up_mask w.drawing) w.loops c.args.up.now c.requires.up_clear.none;
      on_long = refl;
      up_long = refl;
    }

pub mark_sides-requires : goal.mark_sides-requires
mark_sides-requires c =
    let w = c.requires.candidates in
    let o = c.loop-k.invariant w in
    record {
      row = row_of w c.loop-k.k (omega arith);
      on_room = o.on_long ∙ c.requires.on_clear.room_is;
      up_room = o.up_long ∙ c.requires.up_clear.room_is;
    }

pub loop-k-preserved : goal.loop-k-preserved
unfolding row_of
loop-k-preserved c w =
    let o = c.loop-k.invariant w in
    let m = c.mark_sides.ensures (row_of w c.loop-k.k (omega arith)) in
    let on = c.mark_sides.new.on in
    let up = c.mark_sides.new.up in
    record {
      not_past = omega arith;
      on_in = columns_more (side_mask w.drawing) w.loops c.loop-k.on on c.loop-k.k m.on_marked o.on_in;
      up_in = columns_more (up_mask w.drawing) w.loops c.loop-k.up up c.loop-k.k m.up_marked o.up_in;
      on_long = m.on_room ∙ o.on_long;
      up_long = m.up_room ∙ o.up_long;
    }

pub returns : goal.returns
unfolding tables_of side_mask up_mask
returns c w =
    let l = c.loop-k in
    let o = l.invariant w in
    let e : l.k ≡ length w.loops = omega (arith, o.not_past, w.count) in
    let es = w.drawing.edges in
    let most : l.k ≤ most_candidates = omega (arith, w.most, o.not_past) in
    record {
      on_are = columns_all (edge 0 0) has es w.loops l.on l.k e most w.small.edges o.on_in;
      up_are = columns_all (edge 0 0) runs_up es w.loops l.up l.k e most w.small.edges o.up_in;
    }

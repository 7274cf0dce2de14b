-- `walk_clashes::marks::vertex_words`: the loop keeps that the words have the first k candidates.
use mathlib.Core.Bool.{true}
use mathlib.Core.List.{List, [], map}
use mathlib.Core.Path.{◌≡◌, refl, subst, ◌∙◌}
use Prim.Native.Nat.{ℕ, ◌<◌}
use native.Mathlib.Omega.{arith}
use lib.ListN.{length}
use Rattle.paper.specs.Numbers.{most_vertices, most_candidates}
use Rattle.lists.specs.Lists.{upto, member}
use Rattle.lists.proofs.Places.{made_at, made_length, upto_length}
use Rattle.sets.specs.Word.{dig}
use Rattle.sets.specs.Sets.{Is, mask_at}
use Rattle.sets.proofs.Laws.{at-is}
use Rattle.paper.specs.Loops.{loop_at}
use Rattle.fast_tables.specs.Hits.{corner_mask}
use Rattle.fast_tables.proofs.Counts.{map_yes}
use Rattle.walk_edges.proofs.Columns.{columns_none, columns_more, columns_all}
use Rattle.walk_clashes.specs.Marking.{CornersOf}
use Rattle.walk_clashes.proofs.marks.vertex_words.Goals as goal

-- a corner is a vertex
corner-low : {corners : List ℕ} {n : ℕ} (w : CornersOf corners n) (k j : ℕ) → dig (corner_mask w.drawing (loop_at w.loops k)) j ≡ true
    → j < most_vertices
unfolding corner_mask
corner-low w k j t =
    let v = length w.drawing.vertices in
    omega (arith, (map_yes (λ u. member u (loop_at w.loops k)) 0 (upto v) j t).0, upto_length v, w.small)

few : (c : goal.After-at-arg-1) → c.loop-k.k < most_candidates
few c = omega (arith, c.requires.of.most, c.loop-k-test.true)

few-2 : (c : goal.After-mark_all-arg-1) → c.loop-k.k < most_candidates
few-2 c = omega (arith, c.requires.of.most, c.loop-k-test.true)

pub loop-k-init : goal.loop-k-init
loop-k-init c w =
    record {
      not_past = omega arith;
      in_words = columns_none (corner_mask w.drawing) w.loops c.args.at.now
          c.requires.none;
      long = refl;
    }

pub at-set-requires : goal.at-set-requires
at-set-requires c = omega (arith, few c)

pub mark_all-requires : goal.mark_all-requires
mark_all-requires c =
    let w = c.requires.of in
    record {
      mask = corner_mask w.drawing (loop_at w.loops c.loop-k.k);
      mask_is = at-is c.at-set.ensures _ (w.each c.loop-k.k c.loop-k-test.true);
      low = λ j d. omega (arith, corner-low w c.loop-k.k j d, (c.loop-k.invariant w).long, c.requires.whole);
      few = few-2 c;
    }

pub loop-k-preserved : goal.loop-k-preserved
loop-k-preserved c w =
    let l = c.loop-k in
    let o = l.invariant w in
    let m = c.mark_all.ensures in
    record {
      not_past = omega arith;
      in_words =
          columns_more (corner_mask w.drawing) w.loops l.at c.mark_all.new.words l.k
          (m.marked (corner_mask w.drawing (loop_at w.loops l.k))
          (at-is c.at-set.ensures _ (w.each l.k c.loop-k-test.true))) o.in_words;
      long = m.long ∙ o.long;
    }

pub returns : goal.returns
unfolding corner_mask
returns c w v h =
    let l = c.loop-k in
    let o = l.invariant w in
    let n = length w.drawing.vertices in
    let e : l.k ≡ length w.loops = omega (arith, o.not_past, w.count) in
    let m = columns_all 0 member (upto n) w.loops l.at l.k e (omega (arith, w.most, o.not_past))
    (omega (arith, upto_length n, w.small)) o.in_words in
    subst (Is (mask_at l.at v)) (made_at (λ u. map (member u) w.loops) n v [] h)
    (m.at v (omega (arith, made_length (λ u. map (member u) w.loops) n)))

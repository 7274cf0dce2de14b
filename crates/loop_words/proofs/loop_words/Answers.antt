-- `loop_words::loop_words`: the loop keeps that the words of the first k rows are written.
use mathlib.Core.Bool.{Bool}
use mathlib.Core.List.{List, []}
use mathlib.Core.Path.{◌≡◌, ap, sym, ◌∙◌}
use Prim.Native.Nat.{◌+◌, ◌<◌, ◌≤◌, ℕ}
use native.Mathlib.Omega.{arith}
use lib.ListN.{length, set, take}
use lib.Seq.{length-take-le, take-length}
use Rattle.sets.specs.Word.{word}
use Rattle.sets.proofs.Sets.{word_is}
use Rattle.paper.specs.Loops.{Loop, loop_at}
use Rattle.lists.proofs.After.{after_none}
use Rattle.lists.proofs.Places.{take_more}
use Rattle.fast_tables.specs.Hits.{corner_mask, side_mask}
use Rattle.loop_table.specs.Tables.{mask_word, words_after}
use Rattle.loop_table.proofs.Rows.{rows_room, count_is, vertex_is}
use Rattle.loop_table.proofs.Words.{words_kept, word_more}
use Rattle.loop_words.specs.Drawn.{RowDrawn, DrawnTable}
use Rattle.loop_words.proofs.loop_words.Goals as goal

-- row k of the table is loop k
unfoldable row-drawn : {table : List ℕ} {n : ℕ} {number : List ℕ} (w : DrawnTable table n number) (k : ℕ) → k < n → RowDrawn table k number
row-drawn {table} w k h =
    let i : k < length w.loops = omega (arith, w.count) in
    let short = w.of.short in
    record {
      drawing = w.drawing;
      small = w.small;
      loop = loop_at w.loops k;
      path = w.of.path k i;
      short = short k i;
      room = omega (arith, rows_room table w.loops w.held short);
      count = count_is table w.loops w.held short k i;
      vertex = vertex_is table w.loops w.held short k i;
    }

-- one word more, of loop k
more : (mask : Loop → List Bool) (ls : List Loop) (k : ℕ) (words before : List ℕ) (x : ℕ) → k < length ls → k < length before
    → words ≡ words_after mask (take k ls) before → x ≡ word (mask (loop_at ls k)) → set words k x ≡ words_after mask (take (k + 1) ls) before
more mask ls k words before x h m e q =
    let s : length (take k ls) ≡ k = length-take-le k ls (omega arith) in
    (λ i. set words (sym s i) (q i))
    ∙ word_more mask (take k ls) (loop_at ls k) words before (omega (arith, s)) e
    ∙ ap (λ (t : List Loop). words_after mask t before) (sym (take_more ls k [] h))

-- there is a place for row k
place : (mask : Loop → List Bool) (ls : List Loop) (k : ℕ) (words before : List ℕ) → k < length ls → length ls ≤ length before
    → words ≡ words_after mask (take k ls) before → k < length words
place mask ls k words before h m e =
    let s : length (take k ls) ≡ k = length-take-le k ls (omega arith) in
    omega (arith, words_kept mask (take k ls) words before (omega (arith, s)) e)

corners-last : (c : goal.After-put-arg-in-loop-k-1) → c.loop-k.k < length c.loop-k.corners
corners-last c =
    let p = c.requires in
    let w = p.drawn in
    place (corner_mask w.drawing) w.loops c.loop-k.k c.loop-k.corners _ (omega (arith, w.count)) (omega (arith, w.count, p.corner_room))
    (c.loop-k.invariant w).corners-in

sides-last : (c : goal.After-put-arg-in-loop-k-3-1) → c.loop-k.k < length c.loop-k.sides
sides-last c =
    let p = c.requires in
    let w = p.drawn in
    place (side_mask w.drawing) w.loops c.loop-k.k c.loop-k.sides _ (omega (arith, w.count)) (omega (arith, w.count, p.side_room))
    (c.loop-k.invariant w).sides-in

-- ---- the needs

pub loop-k-init : goal.loop-k-init
loop-k-init c w =
    let a = c.args in
    record {
      not_past = omega arith;
      corners-in = after_none (mask_word (corner_mask w.drawing)) 1 a.corners.now;
      sides-in = after_none (mask_word (side_mask w.drawing)) 1 a.sides.now;
    }

pub row_words-w-requires : goal.row_words-w-requires
row_words-w-requires c = row-drawn c.requires.drawn c.loop-k.k (omega arith)

pub put-requires : goal.put-requires
put-requires c = corners-last c

pub put-requires-in-loop-k : goal.put-requires-in-loop-k
put-requires-in-loop-k c = sides-last c

pub loop-k-preserved : goal.loop-k-preserved
unfolding row-drawn
loop-k-preserved c w =
    let a = c.args in
    let k = c.loop-k.invariant w in
    let row = c.row_words-w.ensures (row-drawn w c.loop-k.k (omega arith)) in
    let h : c.loop-k.k < length w.loops = omega (arith, w.count) in
    record {
      not_past = omega arith;
      corners-in =
          c.put.ensures
          ∙ more (corner_mask w.drawing) w.loops c.loop-k.k c.loop-k.corners a.corners.now c.row_words-w.result.corners.word h
          (omega (arith, c.requires.corner_room)) k.corners-in (word_is row.corners);
      sides-in =
          c.put-in-loop-k.ensures
          ∙ more (side_mask w.drawing) w.loops c.loop-k.k c.loop-k.sides a.sides.now c.row_words-w.result.sides.word h
          (omega (arith, c.requires.side_room)) k.sides-in (word_is row.sides);
    }

pub returns : goal.returns
returns c w =
    let a = c.args in
    let l = c.loop-k in
    let k = l.invariant w in
    let e : l.k ≡ length w.loops = omega (arith, k.not_past, w.count) in
    let all = ap (λ (n : ℕ). take n w.loops) e ∙ take-length w.loops in
    record {
      corners_are = k.corners-in ∙ ap (λ (t : List Loop). words_after (corner_mask w.drawing) t a.corners.now) all;
      sides_are = k.sides-in ∙ ap (λ (t : List Loop). words_after (side_mask w.drawing) t a.sides.now) all;
    }

-- `loop_words::row_words`: the loop keeps that the words have gathered the first i corners and the numbers of the sides to them, and
-- that a is the corner before.
use mathlib.Core.Path.{◌≡◌, ap, sym, ◌∙◌}
use Prim.Native.Nat.{◌*◌, ◌+◌, ◌-◌, ◌<◌, ℕ}
use native.Mathlib.Numerals.{add-one}
use native.Mathlib.Omega.{arith}
use lib.ListN.{get_or, length}
use Rattle.paper.specs.Numbers.{most_vertices, most_edges}
use Rattle.sets.specs.Sets.{one_word, wides}
use Rattle.sets.proofs.Sets.{one-word_laws, wides_laws}
use Rattle.fast_tables.specs.Hits.{corner_mask, side_mask}
use Rattle.loop_words.specs.Numbered.{pair_at}
use Rattle.loop_words.specs.Drawn.{RowDrawn}
use Rattle.loop_words.proofs.Gathered.{gathered_none, gathered_more, gathered-all}
use Rattle.loop_words.proofs.Masks.{prior, prior_low, side_number, corners_long, sides_long, corners_are, sides_are, side_low}
use Rattle.loop_words.proofs.row_words.Goals as goal

-- a row that may have been lent
abbrev RowAt : goal.After-wide-len → Type 0
RowAt s = RowDrawn s.args.table.now s.args.k s.args.number.now

-- ---- what is read: of every such row

count_is : (c : goal.After-wide-len) (w : RowAt c) → c.wide-len.result ≡ length w.loop
count_is c w = c.wide-len.ensures ∙ w.count

abbrev RowAt-2 : goal.After-shared_slice_known-3-1-unread → Type 0
RowAt-2 s = RowDrawn s.args.table.now s.args.k s.args.number.now

count_is-2 : (c : goal.After-shared_slice_known-3-1-unread) (w : RowAt-2 c) → c.wide-len.result ≡ length w.loop
count_is-2 c w = c.wide-len.ensures ∙ w.count

abbrev RowAt-3 : goal.After-none-sides → Type 0
RowAt-3 s = RowDrawn s.args.table.now s.args.k s.args.number.now

count_is-3 : (c : goal.After-none-sides) (w : RowAt-3 c) → c.wide-len.result ≡ length w.loop
count_is-3 c w = c.wide-len.ensures ∙ w.count

abbrev RowAt-4 : goal.In-loop-i → Type 0
RowAt-4 s = RowDrawn s.args.table.now s.args.k s.args.number.now

here : (c : goal.In-loop-i) (w : RowAt-4 c) → c.loop-i.i < length w.loop
here c w = omega (arith, (c.loop-i.invariant w).whole)

abbrev RowAt-5 : goal.After-shared_slice_known-in-loop-i-1-unread → Type 0
RowAt-5 s = RowDrawn s.args.table.now s.args.k s.args.number.now

here-2 : (c : goal.After-shared_slice_known-in-loop-i-1-unread) (w : RowAt-5 c) → c.loop-i.i < length w.loop
here-2 c w = omega (arith, (c.loop-i.invariant w).whole)

abbrev RowAt-6 : goal.After-wide-b → Type 0
RowAt-6 s = RowDrawn s.args.table.now s.args.k s.args.number.now

here-3 : (c : goal.After-wide-b) (w : RowAt-6 c) → c.loop-i.i < length w.loop
here-3 c w = omega (arith, (c.loop-i.invariant w).whole)

-- the corner before, and the corner
before-low : (c : goal.After-wide-b) (w : RowAt-6 c) → c.loop-i.a < most_vertices
before-low c w =
    let l = c.loop-i in
    let p = prior_low w.drawing w.loop w.path l.i (here-3 c w) in
    omega (arith, (l.invariant w).last, w.path.below (prior (length w.loop) l.i) p, w.small.vertices)

corner-is : (c : goal.After-wide-b) (w : RowAt-6 c)
    → c.wide-b.result ≡ get_or w.loop c.loop-i.i 0
corner-is c w = c.wide-b.ensures ∙ w.vertex c.loop-i.i (here-3 c w)

corner-low : (c : goal.After-wide-b) (w : RowAt-6 c) → c.wide-b.result < most_vertices
corner-low c w = omega (arith, corner-is c w, w.path.below c.loop-i.i (here-3 c w), w.small.vertices)

-- both are in the table of pairs
pair-low : (c : goal.After-wide-b) → (c.loop-i.a < most_vertices) × (c.wide-b.result < most_vertices)
pair-low c = let w = c.requires in (before-low c w, corner-low c w)

abbrev RowAt-7 : goal.After-way_told-1 → Type 0
RowAt-7 s = RowDrawn s.args.table.now s.args.k s.args.number.now

here-4 : (c : goal.After-way_told-1) (w : RowAt-7 c) → c.loop-i.i < length w.loop
here-4 c w = omega (arith, (c.loop-i.invariant w).whole)

before-low-2 : (c : goal.After-way_told-1) (w : RowAt-7 c) → c.loop-i.a < most_vertices
before-low-2 c w =
    let l = c.loop-i in
    let p = prior_low w.drawing w.loop w.path l.i (here-4 c w) in
    omega (arith, (l.invariant w).last, w.path.below (prior (length w.loop) l.i) p, w.small.vertices)

corner-is-2 : (c : goal.After-way_told-1) (w : RowAt-7 c)
    → c.wide-b.result ≡ get_or w.loop c.loop-i.i 0
corner-is-2 c w = c.wide-b.ensures ∙ w.vertex c.loop-i.i (here-4 c w)

corner-low-2 : (c : goal.After-way_told-1) (w : RowAt-7 c) → c.wide-b.result < most_vertices
corner-low-2 c w = omega (arith, corner-is-2 c w, w.path.below c.loop-i.i (here-4 c w), w.small.vertices)

pair-low-2 : (c : goal.After-way_told-1) → (c.loop-i.a < most_vertices) × (c.wide-b.result < most_vertices)
pair-low-2 c = let w = c.requires in (before-low-2 c w, corner-low-2 c w)

abbrev RowAt-8 : goal.After-wide-e → Type 0
RowAt-8 s = RowDrawn s.args.table.now s.args.k s.args.number.now

here-5 : (c : goal.After-wide-e) (w : RowAt-8 c) → c.loop-i.i < length w.loop
here-5 c w = omega (arith, (c.loop-i.invariant w).whole)

before-low-3 : (c : goal.After-wide-e) (w : RowAt-8 c) → c.loop-i.a < most_vertices
before-low-3 c w =
    let l = c.loop-i in
    let p = prior_low w.drawing w.loop w.path l.i (here-5 c w) in
    omega (arith, (l.invariant w).last, w.path.below (prior (length w.loop) l.i) p, w.small.vertices)

corner-is-3 : (c : goal.After-wide-e) (w : RowAt-8 c)
    → c.wide-b.result ≡ get_or w.loop c.loop-i.i 0
corner-is-3 c w = c.wide-b.ensures ∙ w.vertex c.loop-i.i (here-5 c w)

corner-low-3 : (c : goal.After-wide-e) (w : RowAt-8 c) → c.wide-b.result < most_vertices
corner-low-3 c w = omega (arith, corner-is-3 c w, w.path.below c.loop-i.i (here-5 c w), w.small.vertices)

pair-low-3 : (c : goal.After-wide-e) → (c.loop-i.a < most_vertices) × (c.wide-b.result < most_vertices)
pair-low-3 c = let w = c.requires in (before-low-3 c w, corner-low-3 c w)

abbrev RowAt-9 : goal.After-with-corners → Type 0
RowAt-9 s = RowDrawn s.args.table.now s.args.k s.args.number.now

here-6 : (c : goal.After-with-corners) (w : RowAt-9 c) → c.loop-i.i < length w.loop
here-6 c w = omega (arith, (c.loop-i.invariant w).whole)

corner-is-4 : (c : goal.After-with-corners) (w : RowAt-9 c)
    → c.wide-b.result ≡ get_or w.loop c.loop-i.i 0
corner-is-4 c w = c.wide-b.ensures ∙ w.vertex c.loop-i.i (here-6 c w)

-- the number of the side
side_is : (c : goal.After-with-corners) (w : RowAt-9 c)
    → c.wide-e.result ≡ side_number c.args.number.now w.loop c.loop-i.i
side_is c w =
    let number = c.args.number.now in
    c.wide-e.ensures ∙ (λ t. get_or number (pair_at ((c.loop-i.invariant w).last t) (corner-is-4 c w t)) 0)

edge_low : (c : goal.After-with-corners) (w : RowAt-9 c) → c.wide-e.result < most_edges
edge_low c w =
    let low = side_low w.drawing w.loop w.path _ w.small.numbered c.loop-i.i (here-6 c w) in
    omega (arith, side_is c w, low, w.small.edges)

abbrev RowAt-10 : goal.After-with-sides → Type 0
RowAt-10 s = RowDrawn s.args.table.now s.args.k s.args.number.now

here-7 : (c : goal.After-with-sides) (w : RowAt-10 c) → c.loop-i.i < length w.loop
here-7 c w = omega (arith, (c.loop-i.invariant w).whole)

corner-is-5 : (c : goal.After-with-sides) (w : RowAt-10 c)
    → c.wide-b.result ≡ get_or w.loop c.loop-i.i 0
corner-is-5 c w = c.wide-b.ensures ∙ w.vertex c.loop-i.i (here-7 c w)

side_is-2 : (c : goal.After-with-sides) (w : RowAt-10 c)
    → c.wide-e.result ≡ side_number c.args.number.now w.loop c.loop-i.i
side_is-2 c w =
    let number = c.args.number.now in
    c.wide-e.ensures ∙ (λ t. get_or number (pair_at ((c.loop-i.invariant w).last t) (corner-is-5 c w t)) 0)

-- ---- the needs

pub overflow_mul-first : goal.overflow_mul-first
overflow_mul-first c = omega (arith, c.requires.room)

pub bounds-table-first : goal.bounds-table-first
bounds-table-first c = omega (arith, c.requires.room)

pub overflow_add-first : goal.overflow_add-first
overflow_add-first c = let w = c.requires in omega (arith, count_is c w, w.short, w.room)

pub bounds-table-first-2 : goal.bounds-table-first-2
bounds-table-first-2 c = let w = c.requires in omega (arith, count_is-2 c w, w.short, w.room)

pub loop-i-init : goal.loop-i-init
loop-i-init c w =
    let a = c.args in
    let n = length w.loop in
    let long = w.path.long in
    let s : 13 * a.k + c.wide-len.result ≡ 13 * a.k + 1 + (n - 1) = omega (arith, count_is-3 c w) in
    record {
      whole = count_is-3 c w;
      not_past = omega arith;
      last = c.wide-a.ensures ∙ ap (λ (i : ℕ). get_or a.table.now i 0) s ∙ w.vertex (n - 1) (omega arith);
      corners-in = gathered_none one_word (λ j. get_or w.loop j 0) n c.none-corners.ensures;
      sides-in = gathered_none wides (side_number a.number.now w.loop) n c.none-sides.ensures;
    }

pub overflow_add-first-in-loop-i : goal.overflow_add-first-in-loop-i
overflow_add-first-in-loop-i c = omega (arith, c.requires.room)

pub overflow_add-first-in-loop-i-2 : goal.overflow_add-first-in-loop-i-2
overflow_add-first-in-loop-i-2 c = let w = c.requires in omega (arith, here c w, w.short, w.room)

pub bounds-table-first-in-loop-i : goal.bounds-table-first-in-loop-i
bounds-table-first-in-loop-i c = let w = c.requires in omega (arith, here-2 c w, w.short, w.room)

pub overflow_mul-a : goal.overflow_mul-a
overflow_mul-a c = omega (arith, pair-low c)

pub overflow_add-a : goal.overflow_add-a
overflow_add-a c = omega (arith, pair-low c)

pub bounds-number-a : goal.bounds-number-a
bounds-number-a c = omega (arith, pair-low-2 c)

pub with-corners-requires : goal.with-corners-requires
with-corners-requires c = omega (arith, pair-low-3 c)

pub with-sides-requires : goal.with-sides-requires
with-sides-requires c = edge_low c c.requires

pub loop-i-preserved : goal.loop-i-preserved
loop-i-preserved c w =
    let k = c.loop-i.invariant w in
    let n = length w.loop in
    let h = here-7 c w in
    let number = c.args.number.now in
    let b = corner-is-5 c w in
    record {
      whole = k.whole;
      not_past = omega arith;
      last = b ∙ ap (λ (i : ℕ). get_or w.loop (prior n i) 0) (sym (add-one c.loop-i.i));
      corners-in = gathered_more one_word (λ j. get_or w.loop j 0) n c.loop-i.i _ h b c.with-corners.ensures k.corners-in;
      sides-in = gathered_more wides (side_number number w.loop) n c.loop-i.i _ h (side_is-2 c w) c.with-sides.ensures k.sides-in;
    }

pub returns : goal.returns
returns c w =
    let l = c.loop-i in
    let k = l.invariant w in
    let n = length w.loop in
    let number = c.args.number.now in
    let e : l.i ≡ n = omega (arith, k.whole, k.not_past) in
    let d = w.drawing in
    record {
      corners =
          gathered-all one_word (λ j. get_or w.loop j 0) n one-word_laws l.i e (corner_mask d w.loop)
          (omega (arith, corners_long d w.loop, w.small.vertices))
          (corners_are d w.loop w.path) k.corners-in;
      sides =
          gathered-all wides (side_number number w.loop) n wides_laws l.i e (side_mask d w.loop)
          (omega (arith, sides_long d w.loop, w.small.edges))
          (sides_are d w.loop w.path number w.small.numbered) k.sides-in;
    }

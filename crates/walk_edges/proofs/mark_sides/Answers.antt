-- `walk_edges::mark_sides`: the loop keeps that k is marked on the sides to the first i corners, among the words that go up on those that
-- go up, and that a is the corner before.
use mathlib.Core.Bool.{true}
use mathlib.Core.List.{List}
use mathlib.Core.Path.{◌≡◌, refl, ap, subst, sym, ◌∙◌}
use Prim.Native.Nat.{◌*◌, ◌+◌, ◌-◌, ◌<◌, ℕ}
use native.Mathlib.Omega.{arith}
use lib.ListN.{get_or, length}
use Rattle.paper.specs.Numbers.{most_vertices, most_edges, most_candidates}
use Rattle.fast_tables.specs.Hits.{side_mask}
use Rattle.loop_words.specs.Numbered.{pair_at}
use Rattle.loop_words.proofs.Masks.{prior, prior_low, side_number, sides_are, side_low}
use Rattle.walk_edges.specs.Marks.{RowOf, up_mask}
use Rattle.walk_edges.proofs.Stored.{stored-none, stored-all}
use Rattle.walk_edges.proofs.Ups.{rises, ups_are}
use Rattle.walk_edges.proofs.Turns.{Kept, turn_up, turn_down}
use Rattle.walk_edges.proofs.mark_sides.Goals as goal
use Rattle.walk_edges.proofs.mark_sides.Goals.{then-a-b, else-a-b}

-- a row that may have been lent
abbrev RowAt : goal.After-wide-len → Type 0
RowAt c = RowOf c.args.rows.now c.args.k c.args.number.now

-- ---- what is read: of every such row

count_is : (c : goal.After-wide-len) (w : RowAt c) → c.wide-len.result ≡ length w.drawn.loop
count_is c w = c.wide-len.ensures ∙ w.drawn.count

abbrev RowAt-2 : goal.After-shared_slice_known-3-1-unread → Type 0
RowAt-2 c = RowOf c.args.rows.now c.args.k c.args.number.now

count_is-2 : (c : goal.After-shared_slice_known-3-1-unread) (w : RowAt-2 c) → c.wide-len.result ≡ length w.drawn.loop
count_is-2 c w = c.wide-len.ensures ∙ w.drawn.count

abbrev RowAt-3 : goal.After-wide-a → Type 0
RowAt-3 c = RowOf c.args.rows.now c.args.k c.args.number.now

count_is-3 : (c : goal.After-wide-a) (w : RowAt-3 c) → c.wide-len.result ≡ length w.drawn.loop
count_is-3 c w = c.wide-len.ensures ∙ w.drawn.count

abbrev RowAt-4 : goal.In-loop-i → Type 0
RowAt-4 c = RowOf c.args.rows.now c.args.k c.args.number.now

here : (c : goal.In-loop-i) (w : RowAt-4 c) → c.loop-i.i < length w.drawn.loop
here c w = omega (arith, (c.loop-i.invariant w).whole)

abbrev RowAt-5 : goal.After-shared_slice_known-in-loop-i-1-unread → Type 0
RowAt-5 c = RowOf c.args.rows.now c.args.k c.args.number.now

here-2 : (c : goal.After-shared_slice_known-in-loop-i-1-unread) (w : RowAt-5 c) → c.loop-i.i < length w.drawn.loop
here-2 c w = omega (arith, (c.loop-i.invariant w).whole)

abbrev RowAt-6 : goal.After-wide-b → Type 0
RowAt-6 c = RowOf c.args.rows.now c.args.k c.args.number.now

here-3 : (c : goal.After-wide-b) (w : RowAt-6 c) → c.loop-i.i < length w.drawn.loop
here-3 c w = omega (arith, (c.loop-i.invariant w).whole)

-- the corner before, and the corner
before-low : (c : goal.After-wide-b) (w : RowAt-6 c) → c.loop-i.a < most_vertices
before-low c w =
    let l = c.loop-i in
    let r = w.drawn in
    let p = prior_low r.drawing r.loop r.path l.i (here-3 c w) in
    omega (arith, (l.invariant w).last, r.path.below (prior (length r.loop) l.i) p, r.small.vertices)

corner-is : (c : goal.After-wide-b) (w : RowAt-6 c)
    → c.wide-b.result ≡ get_or w.drawn.loop c.loop-i.i 0
corner-is c w = c.wide-b.ensures ∙ w.drawn.vertex c.loop-i.i (here-3 c w)

corner-low : (c : goal.After-wide-b) (w : RowAt-6 c) → c.wide-b.result < most_vertices
corner-low c w =
    let r = w.drawn in
    omega (arith, corner-is c w, r.path.below c.loop-i.i (here-3 c w), r.small.vertices)

-- both are in the table of pairs
pair-low : (c : goal.After-wide-b) → (c.loop-i.a < most_vertices) × (c.wide-b.result < most_vertices)
pair-low c = let w = c.requires.row in (before-low c w, corner-low c w)

abbrev RowAt-7 : goal.After-way_told-1 → Type 0
RowAt-7 c = RowOf c.args.rows.now c.args.k c.args.number.now

here-4 : (c : goal.After-way_told-1) (w : RowAt-7 c) → c.loop-i.i < length w.drawn.loop
here-4 c w = omega (arith, (c.loop-i.invariant w).whole)

before-low-2 : (c : goal.After-way_told-1) (w : RowAt-7 c) → c.loop-i.a < most_vertices
before-low-2 c w =
    let l = c.loop-i in
    let r = w.drawn in
    let p = prior_low r.drawing r.loop r.path l.i (here-4 c w) in
    omega (arith, (l.invariant w).last, r.path.below (prior (length r.loop) l.i) p, r.small.vertices)

corner-is-2 : (c : goal.After-way_told-1) (w : RowAt-7 c)
    → c.wide-b.result ≡ get_or w.drawn.loop c.loop-i.i 0
corner-is-2 c w = c.wide-b.ensures ∙ w.drawn.vertex c.loop-i.i (here-4 c w)

corner-low-2 : (c : goal.After-way_told-1) (w : RowAt-7 c) → c.wide-b.result < most_vertices
corner-low-2 c w =
    let r = w.drawn in
    omega (arith, corner-is-2 c w, r.path.below c.loop-i.i (here-4 c w), r.small.vertices)

pair-low-2 : (c : goal.After-way_told-1) → (c.loop-i.a < most_vertices) × (c.wide-b.result < most_vertices)
pair-low-2 c = let w = c.requires.row in (before-low-2 c w, corner-low-2 c w)

abbrev RowAt-8 : goal.After-mark-arg-1 → Type 0
RowAt-8 c = RowOf c.args.rows.now c.args.k c.args.number.now

here-5 : (c : goal.After-mark-arg-1) (w : RowAt-8 c) → c.loop-i.i < length w.drawn.loop
here-5 c w = omega (arith, (c.loop-i.invariant w).whole)

corner-is-3 : (c : goal.After-mark-arg-1) (w : RowAt-8 c)
    → c.wide-b.result ≡ get_or w.drawn.loop c.loop-i.i 0
corner-is-3 c w = c.wide-b.ensures ∙ w.drawn.vertex c.loop-i.i (here-5 c w)

-- the number of the side
side_is : (c : goal.After-mark-arg-1) (w : RowAt-8 c)
    → c.wide-e.result
    ≡ side_number c.args.number.now w.drawn.loop c.loop-i.i
side_is c w =
    let number = c.args.number.now in
    c.wide-e.ensures ∙ (λ t. get_or number (pair_at ((c.loop-i.invariant w).last t) (corner-is-3 c w t)) 0)

edge_low : (c : goal.After-mark-arg-1) (w : RowAt-8 c) → c.wide-e.result < most_edges
edge_low c w =
    let r = w.drawn in
    let low = side_low r.drawing r.loop r.path _ r.small.numbered c.loop-i.i (here-5 c w) in
    omega (arith, side_is c w, low, r.small.edges)

low : (c : goal.After-mark-arg-1) → c.wide-e.result < most_edges
low c = edge_low c c.requires.row

-- it has a place in both lists
on-low : (c : goal.After-mark-arg-1) → c.wide-e.result < length c.loop-i.on
on-low c =
    let p = c.requires in
    omega (arith, (c.loop-i.invariant p.row).on_long, p.on_room, low c)

few : (c : goal.After-mark-arg-1) → c.args.k < most_candidates
few c = c.requires.row.few

abbrev RowAt-9 : goal.After-mark-arg-then-a-b-1 → Type 0
RowAt-9 c = RowOf c.args.rows.now c.args.k c.args.number.now

here-6 : (c : goal.After-mark-arg-then-a-b-1) (w : RowAt-9 c) → c.loop-i.i < length w.drawn.loop
here-6 c w = omega (arith, (c.loop-i.invariant w).whole)

corner-is-4 : (c : goal.After-mark-arg-then-a-b-1) (w : RowAt-9 c)
    → c.wide-b.result ≡ get_or w.drawn.loop c.loop-i.i 0
corner-is-4 c w = c.wide-b.ensures ∙ w.drawn.vertex c.loop-i.i (here-6 c w)

side_is-2 : (c : goal.After-mark-arg-then-a-b-1) (w : RowAt-9 c)
    → c.wide-e.result
    ≡ side_number c.args.number.now w.drawn.loop c.loop-i.i
side_is-2 c w =
    let number = c.args.number.now in
    c.wide-e.ensures ∙ (λ t. get_or number (pair_at ((c.loop-i.invariant w).last t) (corner-is-4 c w t)) 0)

edge_low-2 : (c : goal.After-mark-arg-then-a-b-1) (w : RowAt-9 c) → c.wide-e.result < most_edges
edge_low-2 c w =
    let r = w.drawn in
    let low = side_low r.drawing r.loop r.path _ r.small.numbered c.loop-i.i (here-6 c w) in
    omega (arith, side_is-2 c w, low, r.small.edges)

low-2 : (c : goal.After-mark-arg-then-a-b-1) → c.wide-e.result < most_edges
low-2 c = edge_low-2 c c.requires.row

up-low : (c : goal.After-mark-arg-then-a-b-1) → c.wide-e.result < length c.loop-i.up
up-low c =
    let p = c.requires in
    omega (arith, (c.loop-i.invariant p.row).up_long, p.up_room, low-2 c)

few-2 : (c : goal.After-mark-arg-then-a-b-1) → c.args.k < most_candidates
few-2 c = c.requires.row.few

abbrev RowAt-10 : goal.Joined-a-b → Type 0
RowAt-10 c = RowOf c.args.rows.now c.args.k c.args.number.now

here-7 : (c : goal.Joined-a-b) (w : RowAt-10 c) → c.loop-i.i < length w.drawn.loop
here-7 c w = omega (arith, (c.loop-i.invariant w).whole)

corner-is-5 : (c : goal.Joined-a-b) (w : RowAt-10 c)
    → c.wide-b.result ≡ get_or w.drawn.loop c.loop-i.i 0
corner-is-5 c w = c.wide-b.ensures ∙ w.drawn.vertex c.loop-i.i (here-7 c w)

side_is-3 : (c : goal.Joined-a-b) (w : RowAt-10 c)
    → c.wide-e.result
    ≡ side_number c.args.number.now w.drawn.loop c.loop-i.i
side_is-3 c w =
    let number = c.args.number.now in
    c.wide-e.ensures ∙ (λ t. get_or number (pair_at ((c.loop-i.invariant w).last t) (corner-is-5 c w t)) 0)

-- ---- the needs

pub overflow_mul-first : goal.overflow_mul-first
overflow_mul-first c = omega (arith, c.requires.row.drawn.room)

pub bounds-rows-first : goal.bounds-rows-first
bounds-rows-first c = omega (arith, c.requires.row.drawn.room)

pub overflow_add-first : goal.overflow_add-first
overflow_add-first c = let w = c.requires.row in omega (arith, count_is c w, w.drawn.short, w.drawn.room)

pub bounds-rows-first-2 : goal.bounds-rows-first-2
bounds-rows-first-2 c =
    let w = c.requires.row in
    omega (arith, count_is-2 c w, w.drawn.short, w.drawn.room)

pub loop-i-init : goal.loop-i-init
loop-i-init c w =
    let a = c.args in
    let l = w.drawn.loop in
    let n = length l in
    let long = w.drawn.path.long in
    let s : 13 * a.k + c.wide-len.result ≡ 13 * a.k + 1 + (n - 1) = omega (arith, count_is-3 c w) in
    record {
      whole = count_is-3 c w;
      not_past = omega arith;
      last = c.wide-a.ensures ∙ ap (λ (i : ℕ). get_or a.rows.now i 0) s ∙ w.drawn.vertex (n - 1) (omega arith);
      on_in = stored-none (λ j. true) (side_number a.number.now l) n a.k a.on.now;
      up_in = stored-none (rises l) (side_number a.number.now l) n a.k a.up.now;
      on_long = refl;
      up_long = refl;
    }

pub overflow_add-first-in-loop-i : goal.overflow_add-first-in-loop-i
overflow_add-first-in-loop-i c = omega (arith, c.requires.row.drawn.room)

pub overflow_add-first-in-loop-i-2 : goal.overflow_add-first-in-loop-i-2
overflow_add-first-in-loop-i-2 c = let w = c.requires.row in omega (arith, here c w, w.drawn.short, w.drawn.room)

pub bounds-rows-first-in-loop-i : goal.bounds-rows-first-in-loop-i
bounds-rows-first-in-loop-i c =
    let w = c.requires.row in
    omega (arith, here-2 c w, w.drawn.short, w.drawn.room)

pub overflow_mul-a : goal.overflow_mul-a
overflow_mul-a c = omega (arith, pair-low c)

pub overflow_add-a : goal.overflow_add-a
overflow_add-a c = omega (arith, pair-low c)

pub bounds-number-a : goal.bounds-number-a
bounds-number-a c = omega (arith, pair-low-2 c)

pub mark-requires : goal.mark-requires
mark-requires c = (on-low c, few c)

pub mark-requires-then-a-b : goal.mark-requires-then-a-b
mark-requires-then-a-b c = (up-low c, few-2 c)

pub loop-i-preserved : goal.loop-i-preserved
loop-i-preserved c w =
    let o = c.loop-i.invariant w in
    let b = corner-is-5 c w in
    let e = side_is-3 c w in
    let Next : List ℕ → Type 0
    = λ x. Kept w c.args.on.now c.mark.new.words c.args.up.now x
    c.wide-len.result c.wide-b.result (c.loop-i.i + 1) in
    elim c.if-a-b.branch [
      | then-a-b m ↦
          subst Next (sym m.up-is)
          (turn_up w o (here-7 c w) b e c.mark.new.words c.mark.ensures c.mark.auto.words m.mark-then-a-b.new.words m.mark-then-a-b.ensures
          m.mark-then-a-b.auto.words (omega (arith, m.if-a-b.true)))
      | else-a-b m ↦
          subst Next (sym m.up-is)
          (turn_down w o (here-7 c w) b e c.mark.new.words c.mark.ensures c.mark.auto.words (omega (arith, m.if-a-b.false)))
    ]

pub returns : goal.returns
returns c w =
    let l = c.loop-i in
    let o = l.invariant w in
    let r = w.drawn in
    let n = length r.loop in
    let a = c.args in
    let number = a.number.now in
    let side = side_number number r.loop in
    let e : l.i ≡ n = omega (arith, o.whole, o.not_past) in
    let d = r.drawing in
    record {
      on_marked =
          stored-all (λ j. true) side n a.k a.on.now l.on l.i e (side_mask d r.loop)
          (sides_are d r.loop r.path number r.small.numbered) o.on_in;
      up_marked =
          stored-all (rises r.loop) side n a.k a.up.now l.up l.i e (up_mask d r.loop)
          (ups_are d w.upward r.loop r.path number r.small.numbered) o.up_in;
      on_room = o.on_long;
      up_room = o.up_long;
    }

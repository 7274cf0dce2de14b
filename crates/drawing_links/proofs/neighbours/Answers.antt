-- `drawing_links::neighbours`: the loop keeps that the words say which vertices the first e edges join.
use mathlib.Core.Bool.{◌||◌}
use mathlib.Core.Path.{◌∙◌, ◌≡◌, ap, refl, sym}
use Prim.Native.Nat.{◌*◌, ◌+◌, ◌<◌, ℕ}
use native.Mathlib.Omega.{arith}
use lib.ListN.{get_or, length, take}
use lib.Seq.{take-length}
use Rattle.lists.proofs.Places.{any-more}
use Rattle.lists.specs.Lists.{any}
use Rattle.paper.specs.Numbers.{most_vertices}
use Rattle.paper.specs.Drawing.{edge, edges_of, joins}
use Rattle.drawing_links.proofs.Edges.{edge_count, edge_is, half_count}
use Rattle.drawing_links.proofs.Words.{marked, no_marks, words_are}
use Rattle.drawing_links.proofs.neighbours.Goals as goal

-- ---- the ends of edge e are vertices

a_low : (c : goal.After-near-1) → c.wide-a.result < most_vertices
a_low c =
    let p = c.requires in
    let low = p.links.known (2 * c.loop-e.e) (omega (arith, edge_count p.links, p.links.whole)) in
    omega (arith, c.wide-a.ensures, p.most)

b_low : (c : goal.After-near-1) → c.wide-b.result < most_vertices
b_low c =
    let p = c.requires in
    let low = p.links.known (2 * c.loop-e.e + 1) (omega (arith, edge_count p.links, p.links.whole)) in
    omega (arith, c.wide-b.ensures, p.most)

both_low : (c : goal.After-near-1)
    → (c.wide-a.result < most_vertices) × (c.wide-b.result < most_vertices)
both_low c = (a_low c, b_low c)

-- a mark leaves as many words
once-long : (c : goal.After-near-in-loop-e-2-1) → length c.mark.new.words ≡ most_vertices
once-long c = c.mark.auto.words ∙ c.loop-e.invariant.room

a_low-2 : (c : goal.After-near-in-loop-e-2-1) → c.wide-a.result < most_vertices
a_low-2 c =
    let p = c.requires in
    let low = p.links.known (2 * c.loop-e.e) (omega (arith, edge_count p.links, p.links.whole)) in
    omega (arith, c.wide-a.ensures, p.most)

b_low-2 : (c : goal.After-near-in-loop-e-2-1) → c.wide-b.result < most_vertices
b_low-2 c =
    let p = c.requires in
    let low = p.links.known (2 * c.loop-e.e + 1) (omega (arith, edge_count p.links, p.links.whole)) in
    omega (arith, c.wide-b.ensures, p.most)

both_low-2 : (c : goal.After-near-in-loop-e-2-1)
    → (c.wide-a.result < most_vertices) × (c.wide-b.result < most_vertices)
both_low-2 c = (a_low-2 c, b_low-2 c)

once-long-2 : (c : goal.After-near-in-loop-e-3-1) → length c.mark.new.words ≡ most_vertices
once-long-2 c = c.mark.auto.words ∙ c.loop-e.invariant.room

-- ---- the needs

pub loop-e-init : goal.loop-e-init
unfolding any
loop-e-init c =
    let p = c.requires.links in
    record {
      not_past = omega arith;
      whole = half_count p ∙ sym (edge_count p);
      room = refl;
      marks = λ u w. no_marks most_vertices u w;
    }

pub bounds-ends-e : goal.bounds-ends-e
bounds-ends-e c =
    let p = c.requires.links in
    omega (arith, edge_count p, p.whole)

pub bounds-ends-e-in-loop-e : goal.bounds-ends-e-in-loop-e
bounds-ends-e-in-loop-e c =
    let p = c.requires.links in
    omega (arith, edge_count p, p.whole)

pub slice_bounds-mark-end : goal.slice_bounds-mark-end
slice_bounds-mark-end c = sym c.loop-e.invariant.room

pub mark-requires : goal.mark-requires
mark-requires c =
    let low = both_low c in
    (omega (arith, low, c.loop-e.invariant.room), omega (arith, low))

pub slice_bounds-mark-end-in-loop-e : goal.slice_bounds-mark-end-in-loop-e
slice_bounds-mark-end-in-loop-e c = sym (once-long c)

pub mark-requires-in-loop-e : goal.mark-requires-in-loop-e
mark-requires-in-loop-e c =
    let low = both_low-2 c in
    (omega (arith, low, once-long c), omega (arith, low))

pub loop-e-preserved : goal.loop-e-preserved
loop-e-preserved c =
    let p = c.requires.links in
    let es = edges_of c.args.ends.now in
    let a = c.wide-a.result in
    let b = c.wide-b.result in
    let here : edge a b ≡ get_or es c.loop-e.e (edge 0 0) =
    (λ i. edge (c.wide-a.ensures i) (c.wide-b.ensures i)) ∙ sym (edge_is p c.loop-e.e (omega (arith, edge_count p))) in
    record {
      not_past = omega arith;
      whole = c.loop-e.invariant.whole;
      room = c.mark-in-loop-e.auto.words ∙ once-long-2 c;
      marks =
          λ u w.
          marked c.loop-e.near c.mark.new.words c.mark-in-loop-e.new.words a b u w c.mark.ensures c.mark-in-loop-e.ensures
          ∙ (λ i. c.loop-e.invariant.marks u w i || joins u w (here i))
          ∙ sym (any-more (joins u w) es c.loop-e.e (edge 0 0) (omega arith));
    }

pub returns : goal.returns
returns c =
    let l = c.loop-e in
    let es = edges_of c.args.ends.now in
    let e : l.e ≡ length es = omega arith in
    let all = ap (λ (n : ℕ). take n es) e ∙ take-length es in
    words_are c.requires.links l.near l.invariant.room (λ u w. l.invariant.marks u w ∙ ap (any (joins u w)) all)

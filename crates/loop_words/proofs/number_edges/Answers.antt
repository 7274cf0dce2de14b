-- `loop_words::number_edges`: the loop keeps that the entries of the first e edges are their numbers.
use mathlib.Core.List.{List}
use mathlib.Core.Path.{◌≡◌, refl, subst, sym}
use Prim.Native.Nat.{◌+◌, ◌<◌, ℕ}
use native.Mathlib.Omega.{arith}
use lib.ListN.{length-set, set}
use Rattle.paper.specs.Numbers.{most_vertices, most_edges}
use Rattle.loop_words.specs.Numbered.{pair_at}
use Rattle.loop_words.proofs.Pairs.{Numbering, half, high_known, low_known, numbering_end, numbering_more, numbering_none}
use Rattle.loop_words.proofs.number_edges.Goals as goal

-- ---- e is an edge, and its ends are vertices

here : (c : goal.After-shared_slice_known-in-loop-e-1-unread) → c.loop-e.e < c.requires.links.edges
here c = omega (arith, (c.loop-e.invariant c.requires).whole)

here-2 : (c : goal.After-shared_slice_known-in-loop-e-2-1-unread) → c.loop-e.e < c.requires.links.edges
here-2 c = omega (arith, (c.loop-e.invariant c.requires).whole)

here-3 : (c : goal.After-wide-b) → c.loop-e.e < c.requires.links.edges
here-3 c = omega (arith, (c.loop-e.invariant c.requires).whole)

e_low : (c : goal.After-wide-b) → c.loop-e.e < most_edges
e_low c = omega (arith, here-3 c, c.requires.links.most)

a_low : (c : goal.After-wide-b) → c.wide-a.result < most_vertices
a_low c = omega (arith, c.wide-a.ensures, low_known c.requires c.loop-e.e (here-3 c))

b_low : (c : goal.After-wide-b) → c.wide-b.result < most_vertices
b_low c =
    omega (arith, c.wide-b.ensures, high_known c.requires c.loop-e.e (here-3 c))

both_low : (c : goal.After-wide-b) → (c.wide-a.result < most_vertices) × (c.wide-b.result < most_vertices)
both_low c = (a_low c, b_low c)

-- ---- the needs

pub loop-e-init : goal.loop-e-init
loop-e-init c r = record { not_past = omega arith; whole = half r; room = refl; numbers = numbering_none r _ }

pub bounds-ends-e : goal.bounds-ends-e
bounds-ends-e c = omega (arith, here c, c.requires.links.whole)

pub bounds-ends-e-in-loop-e : goal.bounds-ends-e-in-loop-e
bounds-ends-e-in-loop-e c = omega (arith, here-2 c, c.requires.links.whole)

pub overflow_cast-number : goal.overflow_cast-number
overflow_cast-number c = omega (arith, e_low c)

pub overflow_mul-number : goal.overflow_mul-number
overflow_mul-number c = omega (arith, both_low c)

pub overflow_add-number : goal.overflow_add-number
overflow_add-number c = omega (arith, both_low c)

pub bounds-number-a : goal.bounds-number-a
bounds-number-a c = omega (arith, both_low c)

pub overflow_cast-number-in-loop-e : goal.overflow_cast-number-in-loop-e
overflow_cast-number-in-loop-e c = omega (arith, e_low c)

pub overflow_mul-number-in-loop-e : goal.overflow_mul-number-in-loop-e
overflow_mul-number-in-loop-e c = omega (arith, both_low c)

pub overflow_add-number-in-loop-e : goal.overflow_add-number-in-loop-e
overflow_add-number-in-loop-e c = omega (arith, both_low c)

pub bounds-number-b : goal.bounds-number-b
bounds-number-b c = omega (arith, both_low c)

pub loop-e-preserved : goal.loop-e-preserved
loop-e-preserved c r =
    let k = c.loop-e.invariant r in
    let e = c.loop-e.e in
    let a = c.wide-a.ensures in
    let b = c.wide-b.ensures in
    record {
      not_past = omega arith;
      whole = k.whole;
      room = simp length-set k.room;
      numbers =
          subst (λ (t : List ℕ). Numbering r t (e + 1)) (λ i. set (set c.loop-e.number (pair_at (sym a i) (sym b i)) e) (pair_at (sym b i) (sym a i)) e)
          (numbering_more r c.loop-e.number e (omega (arith, k.whole)) k.room k.numbers);
    }

pub returns : goal.returns
returns c =
    let k = c.loop-e.invariant c.requires in
    let e : c.loop-e.e ≡ c.requires.links.edges = omega (arith, k.whole, k.not_past) in
    numbering_end c.requires c.loop-e.number (subst (Numbering c.requires c.loop-e.number) e k.numbers)

-- `walk_clashes::hits::sort_vertex`: one of the three tests is true of the vertex, and its set takes it.
use mathlib.Core.Bool.{Bool}
use mathlib.Core.Path.{◌≡◌, sym, ap, ◌∙◌}
use native.Mathlib.Omega.{arith}
use lib.IntN.{pos}
use lib.Signed.{lt_z}
use mir.Syntax.{w64}
use mir.Val.{of_z, to_z}
use Rattle.exact.proofs.Machine.{plain}
use Rattle.paper.specs.Points.{dot, minus, above, below}
use Rattle.paper.specs.declared.Point.{Point}
use Rattle.polygon.proofs.Rows.{point_small}
use Rattle.polygon.proofs.Sizes.{small_eq}
use Rattle.walk_clashes.specs.Sorted.{side_at}
use Rattle.walk_clashes.proofs.Sorting.{upto_with, upto-same, above_not_below, above_not_zero, below_not_zero, neither_zero}
use Rattle.walk_clashes.proofs.hits.sort_vertex.Goals as goal

z-is : (c : goal.After-with) → to_z w64 (of_z w64 c.plane_side-z.result) ≡ (side_at c.args.xyz.now c.args.m c.args.o c.args.v)
z-is c =
    let a = c.args in
    (plain (record { sfits = c.plane_side-z.type_inv })).reading ∙ c.plane_side-z.ensures
    ∙ ap (λ (p : Point). dot a.m (minus p a.o)) c.point_at.ensures

-- what the code's two tests say
up : (c : goal.After-with) {b : Bool} → lt_z (pos 0) (to_z w64 (of_z w64 c.plane_side-z.result)) ≡ b → above ((side_at c.args.xyz.now c.args.m c.args.o c.args.v)) ≡ b
unfolding above
up c e = ap above (sym (z-is c)) ∙ e

z-is-2 : (c : goal.After-with-then-z-lt0) → to_z w64 (of_z w64 c.plane_side-z.result) ≡ (side_at c.args.xyz.now c.args.m c.args.o c.args.v)
z-is-2 c =
    let a = c.args in
    (plain (record { sfits = c.plane_side-z.type_inv })).reading ∙ c.plane_side-z.ensures
    ∙ ap (λ (p : Point). dot a.m (minus p a.o)) c.point_at.ensures

down : (c : goal.After-with-then-z-lt0) {b : Bool} → lt_z (to_z w64 (of_z w64 c.plane_side-z.result)) (pos 0) ≡ b → below ((side_at c.args.xyz.now c.args.m c.args.o c.args.v)) ≡ b
unfolding below
down c e = ap below (sym (z-is-2 c)) ∙ e

up-2 : (c : goal.After-with-then-z-lt0) {b : Bool} → lt_z (pos 0) (to_z w64 (of_z w64 c.plane_side-z.result)) ≡ b → above ((side_at c.args.xyz.now c.args.m c.args.o c.args.v)) ≡ b
unfolding above
up-2 c e = ap above (sym (z-is-2 c)) ∙ e

z-is-3 : (c : goal.After-with-2) → to_z w64 (of_z w64 c.plane_side-z.result) ≡ (side_at c.args.xyz.now c.args.m c.args.o c.args.v)
z-is-3 c =
    let a = c.args in
    (plain (record { sfits = c.plane_side-z.type_inv })).reading ∙ c.plane_side-z.ensures
    ∙ ap (λ (p : Point). dot a.m (minus p a.o)) c.point_at.ensures

down-2 : (c : goal.After-with-2) {b : Bool} → lt_z (to_z w64 (of_z w64 c.plane_side-z.result)) (pos 0) ≡ b → below ((side_at c.args.xyz.now c.args.m c.args.o c.args.v)) ≡ b
unfolding below
down-2 c e = ap below (sym (z-is-3 c)) ∙ e

up-3 : (c : goal.After-with-2) {b : Bool} → lt_z (pos 0) (to_z w64 (of_z w64 c.plane_side-z.result)) ≡ b → above ((side_at c.args.xyz.now c.args.m c.args.o c.args.v)) ≡ b
unfolding above
up-3 c e = ap above (sym (z-is-3 c)) ∙ e

pub plane_side-z-requires : goal.plane_side-z-requires
plane_side-z-requires c =
    let w = c.requires.plane in
    record { m_in = w.m_in; o_in = w.o_in; p_in = small_eq c.point_at.ensures (point_small _ w.near _) }

pub with-requires : goal.with-requires
with-requires c = let w = c.requires in omega (arith, w.there, w.plane.few)

pub returns-then-z-gt0 : goal.returns-then-z-gt0
returns-then-z-gt0 c s =
    let t = up c c.if-z-gt0.true in
    let v = c.args.v in
    let z = (side_at c.args.xyz.now c.args.m c.args.o c.args.v) in
    record {
      above_in = upto_with _ v t c.with.ensures s.above_in;
      below_in = upto-same _ v (above_not_below z t) s.below_in;
      flat_in = upto-same _ v (above_not_zero z t) s.flat_in;
    }

pub with-requires-then-z-lt0 : goal.with-requires-then-z-lt0
with-requires-then-z-lt0 c = let w = c.requires in omega (arith, w.there, w.plane.few)

pub returns-then-z-lt0 : goal.returns-then-z-lt0
returns-then-z-lt0 c s =
    let v = c.args.v in
    let t = down c c.if-z-lt0.true in
    record {
      above_in = upto-same _ v (up-2 c c.if-z-gt0.false) s.above_in;
      below_in = upto_with _ v t c.with-then-z-lt0.ensures s.below_in;
      flat_in = upto-same _ v (below_not_zero ((side_at c.args.xyz.now c.args.m c.args.o c.args.v)) t) s.flat_in;
    }

pub with-requires-2 : goal.with-requires-2
with-requires-2 c = let w = c.requires in omega (arith, w.there, w.plane.few)

pub returns : goal.returns
returns c s =
    let v = c.args.v in
    let t = up-3 c c.if-z-gt0.false in
    let u = down-2 c c.if-z-lt0.false in
    record {
      above_in = upto-same _ v t s.above_in;
      below_in = upto-same _ v u s.below_in;
      flat_in = upto_with _ v (neither_zero ((side_at c.args.xyz.now c.args.m c.args.o c.args.v)) t u) c.with-2.ensures s.flat_in;
    }

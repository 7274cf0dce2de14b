-- `drawing_rules::places::shares`: the loop keeps that what is left to search decides, since no vertex between u and w is where u is.
use mathlib.Core.Bool.{Bool}
use mathlib.Core.Path.{◌∙◌, ◌≡◌, sym}
use Prim.Native.Nat.{ℕ}
use native.Mathlib.Omega.{arith}
use Rattle.paper.specs.Points.{same_point}
use Rattle.polygon.proofs.Sizes.{small_eq}
use Rattle.fast_meets.proofs.Later.{left_end, left_hit, left_miss, left-start}
use Rattle.drawing_rules.specs.Meets.{share_in}
use Rattle.drawing_rules.proofs.Vertices.{vertex-read, vertex_small}
use Rattle.drawing_rules.proofs.places.shares.Goals as goal

-- ---- the test of vertex w

abbrev Here : goal.Then-same_point → ℕ → Bool
Here c = let a = c.args in share_in a.xyz.now a.u

-- what `same_point` said
tested : (c : goal.Then-same_point) {b : Bool} → c.same_point.result ≡ b
    → Here c c.loop-w.w ≡ b
tested c e =
    sym (c.same_point.ensures ∙ (λ i. same_point (c.point_at-p.ensures i) (c.point_at.ensures i))) ∙ e

abbrev Here-2 : goal.Else-same_point → ℕ → Bool
Here-2 c = let a = c.args in share_in a.xyz.now a.u

tested-2 : (c : goal.Else-same_point) {b : Bool} → c.same_point.result ≡ b
    → Here-2 c c.loop-w.w ≡ b
tested-2 c e =
    sym (c.same_point.ensures ∙ (λ i. same_point (c.point_at-p.ensures i) (c.point_at.ensures i))) ∙ e

abbrev Here-3 : goal.After-loop-w → ℕ → Bool
Here-3 c = let a = c.args in share_in a.xyz.now a.u

-- ---- the needs

pub point_at-p-requires : goal.point_at-p-requires
point_at-p-requires c = vertex-read c.requires.points c.args.u c.requires.u_in

pub loop-w-init : goal.loop-w-init
loop-w-init c =
    let a = c.args in
    (omega (arith, c.requires.u_in), left-start (share_in a.xyz.now a.u) a.v a.u)

pub point_at-requires : goal.point_at-requires
point_at-requires c =
    vertex-read c.requires.points c.loop-w.w (omega arith)

pub same_point-requires : goal.same_point-requires
same_point-requires c =
    let near = vertex_small c.requires.points in
    record { a_in = small_eq c.point_at-p.ensures (near _); b_in = small_eq c.point_at.ensures (near _) }

pub returns-then-same_point : goal.returns-then-same_point
returns-then-same_point c =
    let w = c.loop-w.w in
    sym (c.loop-w.invariant.1 ∙ left_hit (Here c) c.args.v w (omega arith) (tested c c.if-same_point.true))

pub loop-w-preserved : goal.loop-w-preserved
loop-w-preserved c =
    let w = c.loop-w.w in
    (omega arith, c.loop-w.invariant.1 ∙ left_miss (Here-2 c) c.args.v w (omega arith) (tested-2 c c.if-same_point.false))

pub returns : goal.returns
returns c =
    sym (c.loop-w.invariant.1 ∙ left_end (Here-3 c) c.args.v c.loop-w.w (omega arith))

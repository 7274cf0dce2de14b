-- `clash_fold::in_angle`: the two sides of the angle are small enough for the determinants, whose signs are those of the
-- definition.
use Rattle.polygon.specs.Sizes.{PointWithin, most_step}
use mathlib.Core.Path.{◌∙◌}
use lib.IntN.{pos}
use lib.Signed.{lt_z}
use Rattle.paper.specs.Clash.{in_angle, angle_holds}
use Rattle.paper.specs.Points.{above, det}
use Rattle.polygon.proofs.Sizes.{minus_small, small_eq}
use Rattle.polygon.proofs.Zeros.{reads_back}
use Rattle.clash_fold.proofs.in_angle.Goals as goal

-- ---- how large the two sides are

x-small : (c : goal.After-minus-y) → PointWithin most_step c.minus-x.result
x-small c = let s = c.requires in small_eq c.minus-x.ensures (minus_small s.b_in s.p_in)

y-small : (c : goal.After-minus-y) → PointWithin most_step c.minus-y.result
y-small c = let s = c.requires in small_eq c.minus-y.ensures (minus_small s.a_in s.p_in)

x-small-2 : (c : goal.After-det) → PointWithin most_step c.minus-x.result
x-small-2 c = let s = c.requires in small_eq c.minus-x.ensures (minus_small s.b_in s.p_in)

y-small-2 : (c : goal.After-det-2) → PointWithin most_step c.minus-y.result
y-small-2 c = let s = c.requires in small_eq c.minus-y.ensures (minus_small s.a_in s.p_in)

-- ---- the needs

pub det-requires : goal.det-requires
det-requires c = record { p_in = c.requires.m_in; q_in = x-small c; r_in = y-small c }

pub det-requires-2 : goal.det-requires-2
det-requires-2 c =
    let s = c.requires in
    record { p_in = s.m_in; q_in = x-small-2 c; r_in = s.w_in }

pub det-requires-3 : goal.det-requires-3
det-requires-3 c =
    let s = c.requires in
    record { p_in = s.m_in; q_in = s.w_in; r_in = y-small-2 c }

pub returns : goal.returns
unfolding in_angle above
returns c =
    let a = c.args in
    let x = c.minus-x.ensures in
    let y = c.minus-y.ensures in
    let convex = reads_back c.det.result c.det.type_inv ∙ c.det.ensures ∙ (λ i. det a.m (x i) (y i)) in
    let l = reads_back c.det-2.result c.det-2.type_inv ∙ c.det-2.ensures ∙ (λ i. det a.m (x i) a.w) in
    let r = reads_back c.det-3.result c.det-3.type_inv ∙ c.det-3.ensures ∙ (λ i. det a.m a.w (y i)) in
    c.angle_holds.ensures ∙ (λ i. angle_holds (lt_z (pos 0) (convex i)) (lt_z (pos 0) (l i)) (lt_z (pos 0) (r i)))

-- `drawing_segments::laps`: the places along the first segment are dot products with its step, none too large.
use mathlib.Core.Path.{◌∙◌}
use Rattle.paper.specs.Drawing.{overlap}
use Rattle.paper.specs.Points.{dot}
use Rattle.polygon.specs.Sizes.{PointWithin, most_normal}
use Rattle.polygon.proofs.Sizes.{minus_small, small_eq, small_up}
use Rattle.polygon.proofs.Zeros.{reads_back}
use Rattle.fast_meets.specs.Theorems.{laps}
use Rattle.drawing_segments.proofs.laps.Goals as goal

p-small : (c : goal.After-minus) → PointWithin most_normal c.minus-p.result
p-small c = let s = c.requires in small_eq c.minus-p.ensures (small_up tt (minus_small s.b_in s.a_in))

p-small-2 : (c : goal.After-minus-2) → PointWithin most_normal c.minus-p.result
p-small-2 c = let s = c.requires in small_eq c.minus-p.ensures (small_up tt (minus_small s.b_in s.a_in))

p-small-3 : (c : goal.After-dot-2) → PointWithin most_normal c.minus-p.result
p-small-3 c = let s = c.requires in small_eq c.minus-p.ensures (small_up tt (minus_small s.b_in s.a_in))

-- ---- the needs

pub dot-requires : goal.dot-requires
dot-requires c =
    let s = c.requires in
    record { a_in = p-small c; b_in = small_eq c.minus.ensures (small_up tt (minus_small s.c_in s.a_in)) }

pub dot-requires-2 : goal.dot-requires-2
dot-requires-2 c =
    let s = c.requires in
    record { a_in = p-small-2 c; b_in = small_eq c.minus-2.ensures (small_up tt (minus_small s.d_in s.a_in)) }

pub dot-requires-3 : goal.dot-requires-3
dot-requires-3 c = record { a_in = p-small-3 c; b_in = p-small-3 c }

pub returns : goal.returns
unfolding laps
returns c =
    let p = c.minus-p.ensures in
    let u = reads_back c.dot.result c.dot.type_inv ∙ c.dot.ensures ∙ (λ i. dot (p i) (c.minus.ensures i)) in
    let w = reads_back c.dot-2.result c.dot-2.type_inv ∙ c.dot-2.ensures ∙ (λ i. dot (p i) (c.minus-2.ensures i)) in
    let m = reads_back c.dot-3.result c.dot-3.type_inv ∙ c.dot-3.ensures ∙ (λ i. dot (p i) (p i)) in
    c.overlap.ensures ∙ (λ i. overlap (u i) (w i) (m i))

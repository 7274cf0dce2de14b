-- `drawing_segments::along`: the overlap is asked only of segments on one line, as `&&` does, both ways round.
use mathlib.Core.Bool.{Bool, ◌&&◌, false, true}
use mathlib.Core.Path.{◌∙◌, ◌≡◌, ap, sym}
use Rattle.paper.specs.Points.{cross, is_origin}
use Rattle.polygon.proofs.Sizes.{minus_small, small_eq}
use Rattle.fast_meets.specs.Theorems.{laps}
use Rattle.drawing_segments.specs.Ways.{answers, both_along}
use Rattle.drawing_segments.proofs.along.Goals as goal

-- ---- the answers by what `is_origin` said

answer : (c : goal.Then-not-is_origin) (t : Bool) → c.is_origin.result ≡ t
    → let a = c.args in
    answers (t && laps a.a a.b a.c a.d) (t && laps a.c a.d a.a a.b) ≡ both_along a.a a.b a.c a.d
answer c t e =
    let a = c.args in
    let steps = c.cross.ensures ∙ (λ i. cross (c.minus.ensures i) (c.minus-2.ensures i)) in
    ap (λ (t : Bool). answers (t && laps a.a a.b a.c a.d) (t && laps a.c a.d a.a a.b))
    (sym e ∙ c.is_origin.ensures ∙ ap is_origin steps)

answer-2 : (c : goal.After-laps-2) (t : Bool) → c.is_origin.result ≡ t
    → let a = c.args in
    answers (t && laps a.a a.b a.c a.d) (t && laps a.c a.d a.a a.b) ≡ both_along a.a a.b a.c a.d
answer-2 c t e =
    let a = c.args in
    let steps = c.cross.ensures ∙ (λ i. cross (c.minus.ensures i) (c.minus-2.ensures i)) in
    ap (λ (t : Bool). answers (t && laps a.a a.b a.c a.d) (t && laps a.c a.d a.a a.b))
    (sym e ∙ c.is_origin.ensures ∙ ap is_origin steps)

-- ---- the needs

pub cross-requires : goal.cross-requires
cross-requires c =
    let s = c.requires in
    record {
      a_in = small_eq c.minus.ensures (minus_small s.b_in s.a_in);
      b_in = small_eq c.minus-2.ensures (minus_small s.c_in s.a_in);
    }

pub returns-then-not-is_origin : goal.returns-then-not-is_origin
returns-then-not-is_origin c = answer c false (c.if-not-is_origin.true)

pub returns : goal.returns
returns c =
    let one = c.laps.ensures in
    let other = c.laps-2.ensures in
    (λ i. answers (one i) (other i)) ∙ answer-2 c true (c.if-not-is_origin.false)

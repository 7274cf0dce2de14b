-- `drawing_segments::across`: the cut is asked only of segments in one plane, as `&&` does.
use mathlib.Core.Bool.{Bool, ◌&&◌, false, true}
use mathlib.Core.Path.{◌∙◌, ◌≡◌, ap, sym}
use Rattle.paper.specs.Points.{dot, is_zero}
use Rattle.polygon.proofs.Zeros.{reads_back}
use Rattle.drawing_segments.specs.Ways.{answers, both_cut}
use Rattle.drawing_segments.specs.declared.Both.{Both}
use Rattle.drawing_segments.proofs.across.Goals as goal

abbrev cuts : goal.Then-not-is_zero → Both
cuts c = let a = c.args in both_cut a.p a.q a.r a.n

-- what `is_zero` said
plane : (c : goal.Then-not-is_zero) {b : Bool} → c.is_zero.result ≡ b → is_zero (dot c.args.r c.args.n) ≡ b
plane c e =
    ap is_zero (sym (reads_back c.dot.result c.dot.type_inv ∙ c.dot.ensures)) ∙ sym c.is_zero.ensures ∙ e

-- the answers by that
answer : (c : goal.Then-not-is_zero) (b : Bool) → c.is_zero.result ≡ b
    → let level = is_zero (dot c.args.r c.args.n) in
    let cut = cuts c in
    answers (b && cut.first) (b && cut.second) ≡ answers (level && cut.first) (level && cut.second)
answer c b e = let cut = cuts c in ap (λ (t : Bool). answers (t && cut.first) (t && cut.second)) (sym (plane c e))

abbrev cuts-2 : goal.After-cut → Both
cuts-2 c = let a = c.args in both_cut a.p a.q a.r a.n

plane-2 : (c : goal.After-cut) {b : Bool} → c.is_zero.result ≡ b → is_zero (dot c.args.r c.args.n) ≡ b
plane-2 c e =
    ap is_zero (sym (reads_back c.dot.result c.dot.type_inv ∙ c.dot.ensures)) ∙ sym c.is_zero.ensures ∙ e

answer-2 : (c : goal.After-cut) (b : Bool) → c.is_zero.result ≡ b
    → let level = is_zero (dot c.args.r c.args.n) in
    let cut = cuts-2 c in
    answers (b && cut.first) (b && cut.second) ≡ answers (level && cut.first) (level && cut.second)
answer-2 c b e = let cut = cuts-2 c in ap (λ (t : Bool). answers (t && cut.first) (t && cut.second)) (sym (plane-2 c e))

pub returns-then-not-is_zero : goal.returns-then-not-is_zero
returns-then-not-is_zero c = answer c false (c.if-not-is_zero.true)

pub returns : goal.returns
returns c =
    c.cut.ensures ∙ answer-2 c true (c.if-not-is_zero.false)

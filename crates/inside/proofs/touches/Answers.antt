-- `inside::touches`: the box is asked only where the turn is 0, as `&&` does.
use mathlib.Core.Bool.{Bool, ◌&&◌}
use mathlib.Core.Path.{◌∙◌, ◌≡◌, ap, sym}
use Rattle.exact.proofs.Machine.{plain}
use Rattle.paper.specs.Points.{is_zero}
use Rattle.paper.specs.Polygon.{between}
use Rattle.inside.proofs.touches.Goals as goal

-- what `is_zero` said of the turn
zero_is : (c : goal.After-between) {b : Bool} → c.is_zero.result ≡ b → is_zero c.args.t ≡ b
zero_is c e = ap is_zero (sym (plain c.ranges.t).reading) ∙ sym c.is_zero.ensures ∙ e

zero_is-2 : (c : goal.Else-is_zero) {b : Bool} → c.is_zero.result ≡ b → is_zero c.args.t ≡ b
zero_is-2 c e = ap is_zero (sym (plain c.ranges.t).reading) ∙ sym c.is_zero.ensures ∙ e

pub returns-then-is_zero : goal.returns-then-is_zero
returns-then-is_zero c =
    let d = (plain c.ranges.d).reading in
    let zero = sym (zero_is c c.if-is_zero.true) in
    c.between.ensures ∙ (λ i. zero i && between c.args.a c.args.b c.args.p (d i))

pub returns-else-is_zero : goal.returns-else-is_zero
returns-else-is_zero c =
    let a = c.args in
    ap (λ (b : Bool). b && between a.a a.b a.p a.d) (sym (zero_is-2 c c.if-is_zero.false))

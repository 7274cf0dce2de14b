-- `inside::lies_inside`: each of the three answers, asked whether it is inside.
use mathlib.Core.Path.{◌∙◌, ◌≡◌, ap, sym}
use lib.IntN.{ℤ}
use Rattle.exact.proofs.Machine.{plain}
use Rattle.paper.specs.Polygon.{Polygon, is_inside, lies, over}
use Rattle.polygon.specs.Rings.{ring}
use Rattle.inside.proofs.lies_inside.Goals as goal

abbrev R : goal.In-Outside → Polygon
R c = ring c.args.xyz.now c.args.table.now c.args.r

inside : (c : goal.In-Outside)
    → is_inside c.lies-w.result ≡ is_inside (lies (over c.args.p c.args.d) (R c))
inside c =
    ap is_inside (c.lies-w.ensures ∙ ap (λ (z : ℤ). lies (over c.args.p z) (R c)) (plain c.ranges.d).reading)

abbrev R-2 : goal.In-Border → Polygon
R-2 c = ring c.args.xyz.now c.args.table.now c.args.r

inside-2 : (c : goal.In-Border)
    → is_inside c.lies-w.result ≡ is_inside (lies (over c.args.p c.args.d) (R-2 c))
inside-2 c =
    ap is_inside (c.lies-w.ensures ∙ ap (λ (z : ℤ). lies (over c.args.p z) (R-2 c)) (plain c.ranges.d).reading)

abbrev R-3 : goal.In-Inside → Polygon
R-3 c = ring c.args.xyz.now c.args.table.now c.args.r

inside-3 : (c : goal.In-Inside)
    → is_inside c.lies-w.result ≡ is_inside (lies (over c.args.p c.args.d) (R-3 c))
inside-3 c =
    ap is_inside (c.lies-w.ensures ∙ ap (λ (z : ℤ). lies (over c.args.p z) (R-3 c)) (plain c.ranges.d).reading)

pub returns-in-Outside : goal.returns-in-Outside
unfolding is_inside
returns-in-Outside c = sym (ap is_inside c.in-Outside.is) ∙ inside c

pub returns-in-Border : goal.returns-in-Border
unfolding is_inside
returns-in-Border c = sym (ap is_inside c.in-Border.is) ∙ inside-2 c

pub returns-in-Inside : goal.returns-in-Inside
unfolding is_inside
returns-in-Inside c = sym (ap is_inside c.in-Inside.is) ∙ inside-3 c

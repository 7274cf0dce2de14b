-- `inside::axis_of`: the code asks for 0 in the order of the definition, of numbers that are read back as they are.
use Rattle.paper.specs.declared.Point.{Point}
use mathlib.Core.Bool.{Bool}
use mathlib.Core.Path.{◌∙◌, ◌≡◌, ap, sym}
use Rattle.paper.specs.Points.{is_zero}
use Rattle.inside.proofs.Views.{axis_x, axis_y, axis_z}
use Rattle.polygon.proofs.Zeros.{reads_back}
use Rattle.inside.proofs.axis_of.Goals as goal

abbrev normal : goal.Then-is_zero-2 → Point
normal c = c.args.m

-- ---- what `is_zero` said of a field

zero-x : (c : goal.Then-is_zero-2) {b : Bool} → c.is_zero.result ≡ b → is_zero (normal c).x ≡ b
zero-x c e =
    let back = reads_back (normal c).x c.struct_told-1.given.0.1 in
    ap is_zero (sym back) ∙ sym c.is_zero.ensures ∙ e

zero-y : (c : goal.Then-is_zero-2) {b : Bool} → c.is_zero-then-is_zero.result ≡ b → is_zero (normal c).y ≡ b
zero-y c e =
    let back = reads_back (normal c).y c.struct_told-then-is_zero-1.given.1.0.1 in
    ap is_zero (sym back) ∙ sym c.is_zero-then-is_zero.ensures ∙ e

abbrev normal-2 : goal.Else-is_zero-2 → Point
normal-2 c = c.args.m

zero-x-2 : (c : goal.Else-is_zero-2) {b : Bool} → c.is_zero.result ≡ b → is_zero (normal-2 c).x ≡ b
zero-x-2 c e =
    let back = reads_back (normal-2 c).x c.struct_told-1.given.0.1 in
    ap is_zero (sym back) ∙ sym c.is_zero.ensures ∙ e

zero-y-2 : (c : goal.Else-is_zero-2) {b : Bool} → c.is_zero-then-is_zero.result ≡ b → is_zero (normal-2 c).y ≡ b
zero-y-2 c e =
    let back = reads_back (normal-2 c).y c.struct_told-then-is_zero-1.given.1.0.1 in
    ap is_zero (sym back) ∙ sym c.is_zero-then-is_zero.ensures ∙ e

abbrev normal-3 : goal.Else-is_zero → Point
normal-3 c = c.args.m

zero-x-3 : (c : goal.Else-is_zero) {b : Bool} → c.is_zero.result ≡ b → is_zero (normal-3 c).x ≡ b
zero-x-3 c e =
    let back = reads_back (normal-3 c).x c.struct_told-1.given.0.1 in
    ap is_zero (sym back) ∙ sym c.is_zero.ensures ∙ e

-- ---- the needs

pub returns-then-is_zero-2 : goal.returns-then-is_zero-2
returns-then-is_zero-2 c =
    axis_z (normal c) (zero-x c c.if-is_zero.true) (zero-y c c.if-is_zero-2.true)

pub returns-else-is_zero-2 : goal.returns-else-is_zero-2
returns-else-is_zero-2 c =
    axis_y (normal-2 c) (zero-x-2 c c.if-is_zero.true) (zero-y-2 c c.if-is_zero-2.false)

pub returns-else-is_zero : goal.returns-else-is_zero
returns-else-is_zero c = axis_x (normal-3 c) (zero-x-3 c c.if-is_zero.false)

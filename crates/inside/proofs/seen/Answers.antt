-- `inside::seen`: the two numbers that are kept are read back as they are.
use Rattle.paper.specs.declared.Flat.{Flat}
use mir.Val.{of_z, to_z, hbits}
use mir.Syntax.{w64}
use lib.Signed.{mag}
use lib.IntN.{ℤ}
use Prim.Native.Nat.{◌<◌, ◌^◌}
use mathlib.Core.Path.{◌∙◌, ap, sym, ◌≡◌}
use Rattle.paper.specs.Polygon.{seen}
use Rattle.paper.specs.declared.Axis.{Axis}
use Rattle.polygon.proofs.Zeros.{reads_back}
use Rattle.inside.proofs.seen.Goals as goal

-- two numbers that fit an `i64`, as they come back
back : (u v : ℤ) → mag u < 2 ^ hbits w64 → mag v < 2 ^ hbits w64
    → ◌≡◌ {A = Flat} (record { u = to_z w64 (of_z w64 u); v = to_z w64 (of_z w64 v) }) (record { u = u; v = v })
back u v f g = λ i. record { u = reads_back u f i; v = reads_back v g i }

pub returns-in-AlongX : goal.returns-in-AlongX
unfolding seen
returns-in-AlongX c =
    let p = c.args.p in
    let fits = c.struct_told-1.given in
    back p.y p.z fits.1.0.1 fits.1.1.0.1 ∙ ap (λ (a : Axis). seen a p) (sym c.in-AlongX.is)

pub returns-in-AlongY : goal.returns-in-AlongY
unfolding seen
returns-in-AlongY c =
    let p = c.args.p in
    let fits = c.struct_told-in-AlongY-1.given in
    back p.x p.z fits.0.1 fits.1.1.0.1 ∙ ap (λ (a : Axis). seen a p) (sym c.in-AlongY.is)

pub returns-in-AlongZ : goal.returns-in-AlongZ
unfolding seen
returns-in-AlongZ c =
    let p = c.args.p in
    let fits = c.struct_told-in-AlongZ-1.given in
    back p.x p.y fits.0.1 fits.1.0.1 ∙ ap (λ (a : Axis). seen a p) (sym c.in-AlongZ.is)

-- `inside::between`: d times each coordinate fits an `i64`, and is read back as it is.
use mathlib.Core.Bool.{◌&&◌}
use mathlib.Core.List.{[], ◌∷◌}
use mathlib.Core.Path.{◌∙◌}
use lib.IntN.{ℤ}
use Rattle.exact.proofs.Machine.{Plain, ◌▸◌, asked, done, reads}
use Rattle.exact.proofs.Ring.{◌⊗◌, var}
use Rattle.paper.specs.Numbers.{farthest}
use Rattle.paper.specs.Polygon.{between, spans}
use Rattle.paper.specs.declared.Flat.{Flat}
use Rattle.polygon.specs.Sizes.{most_scale}
use Rattle.polygon.proofs.Zeros.{reads_back}
use Rattle.inside.specs.Asked.{SideWithin}
use Rattle.inside.proofs.between.Goals as goal

-- the numbers of a, b and d as variables of a formula
abbrev five : {a b : Flat} {d : ℤ} → SideWithin a b d
    → Plain (farthest ∷ farthest ∷ farthest ∷ farthest ∷ most_scale ∷ []) (a.u ∷ a.v ∷ b.u ∷ b.v ∷ d ∷ [])
five h =
    let a = h.a_in in
    let b = h.b_in in
    a.u_in ▸ a.v_in ▸ b.u_in ▸ b.v_in ▸ h.d_in ▸ done

-- ---- the needs

pub overflow_mul-d : goal.overflow_mul-d
overflow_mul-d c = asked (five c.requires) (var 4 ⊗ var 0) tt

pub overflow_mul-d-2 : goal.overflow_mul-d-2
overflow_mul-d-2 c = asked (five c.requires) (var 4 ⊗ var 2) tt

pub overflow_mul-d-3 : goal.overflow_mul-d-3
overflow_mul-d-3 c = asked (five c.requires) (var 4 ⊗ var 1) tt

pub overflow_mul-d-4 : goal.overflow_mul-d-4
overflow_mul-d-4 c = asked (five c.requires) (var 4 ⊗ var 3) tt

pub returns : goal.returns
unfolding between
returns c =
    let a = c.args in
    let s = five c.requires in
    let p-fits = c.struct_told-3-1.given in
    let au = reads s (var 4 ⊗ var 0) tt in
    let bu = reads s (var 4 ⊗ var 2) tt in
    let av = reads s (var 4 ⊗ var 1) tt in
    let bv = reads s (var 4 ⊗ var 3) tt in
    let u = c.spans.ensures ∙ (λ i. spans (au i) (bu i) (reads_back a.p.u p-fits.0.1 i)) in
    let v = c.spans-2.ensures ∙ (λ i. spans (av i) (bv i) (reads_back a.p.v p-fits.1.0.1 i)) in
    λ i. u i && v i

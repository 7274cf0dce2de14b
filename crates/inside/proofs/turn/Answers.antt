-- `inside::turn`: of a piercing point each product and each difference fits an `i64`, and the last is read back as it is.
use mathlib.Core.List.{[], ◌∷◌}
use lib.IntN.{ℤ}
use Rattle.exact.proofs.Machine.{Plain, ◌▸◌, asked, done, reads}
use Rattle.exact.proofs.Ring.{Expr, ◌⊖◌, ◌⊗◌, var}
use Rattle.paper.specs.Numbers.{farthest}
use Rattle.paper.specs.Polygon.{turn}
use Rattle.paper.specs.declared.Flat.{Flat}
use Rattle.polygon.specs.Sizes.{most_scale, most_scaled}
use Rattle.inside.specs.Asked.{TurnWithin}
use Rattle.inside.proofs.turn.Goals as goal

-- the numbers of a, b, p and d as variables of a formula
abbrev values : {a b p : Flat} {d : ℤ} → TurnWithin a b p d
    → Plain (farthest ∷ farthest ∷ farthest ∷ farthest ∷ most_scaled ∷ most_scaled ∷ most_scale ∷ [])
    (a.u ∷ a.v ∷ b.u ∷ b.v ∷ p.u ∷ p.v ∷ d ∷ [])
values h =
    let s = h.side in
    let a = s.a_in in
    let b = s.b_in in
    let p = h.p_in in
    a.u_in ▸ a.v_in ▸ b.u_in ▸ b.v_in ▸ p.u_in ▸ p.v_in ▸ s.d_in ▸ done

-- how far p / d is from a, times d, in v and in u
abbrev upV : Expr
upV = var 5 ⊖ var 6 ⊗ var 1

abbrev upU : Expr
upU = var 4 ⊖ var 6 ⊗ var 0

-- ---- the needs

pub overflow_sub-result : goal.overflow_sub-result
overflow_sub-result c = asked (values c.requires) (var 2 ⊖ var 0) tt

pub overflow_mul-result : goal.overflow_mul-result
overflow_mul-result c = asked (values c.requires) (var 6 ⊗ var 1) tt

pub overflow_sub-result-2 : goal.overflow_sub-result-2
overflow_sub-result-2 c = asked (values c.requires) upV tt

pub overflow_mul-result-2 : goal.overflow_mul-result-2
overflow_mul-result-2 c = asked (values c.requires) ((var 2 ⊖ var 0) ⊗ upV) tt

pub overflow_sub-result-3 : goal.overflow_sub-result-3
overflow_sub-result-3 c = asked (values c.requires) (var 3 ⊖ var 1) tt

pub overflow_mul-result-3 : goal.overflow_mul-result-3
overflow_mul-result-3 c = asked (values c.requires) (var 6 ⊗ var 0) tt

pub overflow_sub-result-4 : goal.overflow_sub-result-4
overflow_sub-result-4 c = asked (values c.requires) upU tt

pub overflow_mul-result-4 : goal.overflow_mul-result-4
overflow_mul-result-4 c = asked (values c.requires) ((var 3 ⊖ var 1) ⊗ upU) tt

pub overflow_sub-result-5 : goal.overflow_sub-result-5
overflow_sub-result-5 c = asked (values c.requires) ((var 2 ⊖ var 0) ⊗ upV ⊖ (var 3 ⊖ var 1) ⊗ upU) tt

pub returns : goal.returns
unfolding turn
returns c = reads (values c.requires) ((var 2 ⊖ var 0) ⊗ upV ⊖ (var 3 ⊖ var 1) ⊗ upU) tt

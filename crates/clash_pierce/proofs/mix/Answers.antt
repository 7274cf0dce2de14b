-- `clash_pierce::mix`: each product and each sum of two fits an `i64`, and the sums are read back as they are.
use mathlib.Core.List.{[], ◌∷◌}
use lib.IntN.{ℤ}
use Rattle.exact.proofs.Machine.{Plain, ◌▸◌, asked, done, reads}
use Rattle.exact.proofs.Ring.{◌⊕◌, ◌⊗◌, var}
use Rattle.paper.specs.Numbers.{farthest}
use Rattle.paper.specs.Points.{plus, times}
use Rattle.paper.specs.declared.Point.{Point}
use Rattle.polygon.specs.Sizes.{most_plane_side}
use Rattle.clash_pierce.specs.Asked.{MixWithin}
use Rattle.clash_pierce.proofs.mix.Goals as goal

-- the numbers of s, p, t and q as variables of a formula
abbrev eight : {s : ℤ} {p : Point} {t : ℤ} {q : Point} → MixWithin s p t q
    → Plain (most_plane_side ∷ farthest ∷ farthest ∷ farthest ∷ most_plane_side ∷ farthest ∷ farthest ∷ farthest ∷ [])
    (s ∷ p.x ∷ p.y ∷ p.z ∷ t ∷ q.x ∷ q.y ∷ q.z ∷ [])
eight h =
    let p = h.p_in in
    let q = h.q_in in
    h.s_in ▸ p.x_in ▸ p.y_in ▸ p.z_in ▸ h.t_in ▸ q.x_in ▸ q.y_in ▸ q.z_in ▸ done

-- ---- the needs

pub overflow_mul-result : goal.overflow_mul-result
overflow_mul-result c = asked (eight c.requires) (var 0 ⊗ var 1) tt

pub overflow_mul-result-2 : goal.overflow_mul-result-2
overflow_mul-result-2 c = asked (eight c.requires) (var 4 ⊗ var 5) tt

pub overflow_add-result : goal.overflow_add-result
overflow_add-result c = asked (eight c.requires) (var 0 ⊗ var 1 ⊕ var 4 ⊗ var 5) tt

pub overflow_mul-result-3 : goal.overflow_mul-result-3
overflow_mul-result-3 c = asked (eight c.requires) (var 0 ⊗ var 2) tt

pub overflow_mul-result-4 : goal.overflow_mul-result-4
overflow_mul-result-4 c = asked (eight c.requires) (var 4 ⊗ var 6) tt

pub overflow_add-result-2 : goal.overflow_add-result-2
overflow_add-result-2 c = asked (eight c.requires) (var 0 ⊗ var 2 ⊕ var 4 ⊗ var 6) tt

pub overflow_mul-result-5 : goal.overflow_mul-result-5
overflow_mul-result-5 c = asked (eight c.requires) (var 0 ⊗ var 3) tt

pub overflow_mul-result-6 : goal.overflow_mul-result-6
overflow_mul-result-6 c = asked (eight c.requires) (var 4 ⊗ var 7) tt

pub overflow_add-result-3 : goal.overflow_add-result-3
overflow_add-result-3 c = asked (eight c.requires) (var 0 ⊗ var 3 ⊕ var 4 ⊗ var 7) tt

pub returns : goal.returns
unfolding plus times
returns c =
    let s = eight c.requires in
    λ i. record {
      x = reads s (var 0 ⊗ var 1 ⊕ var 4 ⊗ var 5) tt i;
      y = reads s (var 0 ⊗ var 2 ⊕ var 4 ⊗ var 6) tt i;
      z = reads s (var 0 ⊗ var 3 ⊕ var 4 ⊗ var 7) tt i;
    }

-- The axis along which a plane is seen, and what is seen along it.
use mathlib.Core.Path.{◌≡◌, refl, ◌∙◌, ap}
use mathlib.Core.Bool.{Bool, true, false, cond}
use mathlib.Core.List.{[], ◌∷◌}
use lib.IntN.{ℤ, pos, ◌+ℤ◌, ◌-ℤ◌, ◌*ℤ◌}
use Rattle.exact.proofs.Laws.{eq_of_sub, sub_of_eq}
use Rattle.exact.proofs.Ring.{var, con, ◌⊕◌, ◌⊖◌, ◌⊗◌, ring}
use Rattle.exact.proofs.Signs.{mul-zero}
use Rattle.paper.specs.Points.{pt, minus, dot, is_zero}
use Rattle.paper.specs.Polygon.{axis, seen}
use Rattle.paper.specs.declared.Point.{Point}
use Rattle.paper.specs.declared.Flat.{Flat}
use Rattle.paper.specs.declared.Axis.{Axis}
use Rattle.paper.specs.declared.Axis.TheVariants.{AlongX, AlongY, AlongZ}
use Rattle.paper_laws.proofs.Points.{zero_yes, zero_no}
use Rattle.means_area.specs.Theorems.{AxisReal}
use Rattle.means_area.specs.Space.{through}

-- a sum of three products that is 0, whose last two have a factor 0
one : (a b c p q r s t u : ℤ) → (a ≡ pos 0 → ⊥) → a *ℤ (p -ℤ q) +ℤ b *ℤ (r -ℤ s) +ℤ c *ℤ (t -ℤ u) ≡ pos 0 → r ≡ s → t ≡ u → p ≡ q
one a b c p q r s t u n e f g = eq_of_sub p q (mul-zero a (p -ℤ q) n
    (ring (a ∷ b ∷ c ∷ (p -ℤ q) ∷ (r -ℤ s) ∷ (t -ℤ u) ∷ []) (var 0 ⊗ var 3)
    ((var 0 ⊗ var 3 ⊕ var 1 ⊗ var 4 ⊕ var 2 ⊗ var 5) ⊖ var 1 ⊗ var 4 ⊖ var 2 ⊗ var 5) tt
    ∙ (λ i. e i -ℤ b *ℤ sub_of_eq r s f i -ℤ c *ℤ sub_of_eq t u g i)
    ∙ ring (b ∷ c ∷ []) (con (pos 0) ⊖ var 0 ⊗ con (pos 0) ⊖ var 1 ⊗ con (pos 0)) (con (pos 0)) tt))

-- along the axis that is chosen for a direction, it is not 0
pub axis_real : AxisReal
unfolding axis
axis_real n ne = go (is_zero n.x) refl (is_zero n.y) refl
  where
    go : (s : Bool) → is_zero n.x ≡ s → (t : Bool) → is_zero n.y ≡ t → through (cond s (cond t AlongZ AlongY) AlongX) n ≡ pos 0 → ⊥
    go false e t f q = zero_no e q
    go true e false f q = zero_no f q
    go true e true f q = ne (λ i. pt (zero_yes n.x e i) (zero_yes n.y f i) (q i))

-- seen along an axis along which n is not 0, two points that differ across n are seen as two
pub view_one : (a : Axis) (n p q : Point) → (through a n ≡ pos 0 → ⊥) → dot n (minus p q) ≡ pos 0 → seen a p ≡ seen a q → p ≡ q
unfolding seen dot minus
view_one AlongX n p q h e s = λ i. pt (third i) (s i).u (s i).v
  where
    third : p.x ≡ q.x
    third = one n.x n.y n.z p.x q.x p.y q.y p.z q.z h e (ap (λ (f : Flat). f.u) s) (ap (λ (f : Flat). f.v) s)
view_one AlongY n p q h e s = λ i. pt (s i).u (third i) (s i).v
  where
    third : p.y ≡ q.y
    third = one n.y n.x n.z p.y q.y p.x q.x p.z q.z h
        (ring (n.x ∷ n.y ∷ n.z ∷ (p.x -ℤ q.x) ∷ (p.y -ℤ q.y) ∷ (p.z -ℤ q.z) ∷ []) (var 1 ⊗ var 4 ⊕ var 0 ⊗ var 3 ⊕ var 2 ⊗ var 5)
        (var 0 ⊗ var 3 ⊕ var 1 ⊗ var 4 ⊕ var 2 ⊗ var 5) tt ∙ e)
        (ap (λ (f : Flat). f.u) s) (ap (λ (f : Flat). f.v) s)
view_one AlongZ n p q h e s = λ i. pt (s i).u (s i).v (third i)
  where
    third : p.z ≡ q.z
    third = one n.z n.x n.y p.z q.z p.x q.x p.y q.y h
        (ring (n.x ∷ n.y ∷ n.z ∷ (p.x -ℤ q.x) ∷ (p.y -ℤ q.y) ∷ (p.z -ℤ q.z) ∷ []) (var 2 ⊗ var 5 ⊕ var 0 ⊗ var 3 ⊕ var 1 ⊗ var 4)
        (var 0 ⊗ var 3 ⊕ var 1 ⊗ var 4 ⊕ var 2 ⊗ var 5) tt ∙ e)
        (ap (λ (f : Flat). f.u) s) (ap (λ (f : Flat). f.v) s)

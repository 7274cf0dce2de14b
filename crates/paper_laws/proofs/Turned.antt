-- An edge from its other end: the same midpoint, and it pierces as before.
use mathlib.Core.Path.{◌≡◌, ap, ◌∙◌}
use mathlib.Core.Bool.{◌&&◌, ◌||◌, and_comm, or_comm}
use mathlib.Core.List.{[], ◌∷◌}
use Prim.Native.Nat.{◌+◌}
use native.Mathlib.Omega.{arith}
use lib.IntN.{ℤ, pos, nat_abs}
use Rattle.paper.specs.Points.{plus, times, above, below}
use Rattle.paper.specs.Polygon.{Polygon, over, midpoint, lies, is_inside}
use Rattle.paper.specs.Clash.{opposite, pierced}
use Rattle.paper.specs.declared.Point.{Point}
use Rattle.paper_laws.proofs.Vectors.{num, vec, x, v, ◌+v◌, ◌*v◌, vring}

pub middle_turned : (p q : Point) → midpoint p q ≡ midpoint q p
unfolding midpoint
middle_turned p q = ap (λ (r : Point). over r (pos 2)) (vring (vec p ∷ vec q ∷ []) (v 0 +v v 1) (v 1 +v v 0) tt)

opposite_turned : (a b : ℤ) → opposite a b ≡ opposite b a
unfolding opposite
opposite_turned a b =
    or_comm (below a && above b) (above a && below b) ∙ (λ i. and_comm (above a) (below b) i || and_comm (below a) (above b) i)

pub pierced_turned : (g : Polygon) (p q : Point) (a b : ℤ) → pierced g p q a b ≡ pierced g q p b a
unfolding pierced
pierced_turned g p q a b =
    let m : nat_abs a + nat_abs b ≡ nat_abs b + nat_abs a = omega arith in
    let w : plus (times (pos (nat_abs b)) p) (times (pos (nat_abs a)) q) ≡ plus (times (pos (nat_abs a)) q) (times (pos (nat_abs b)) p)
    = vring (num (pos (nat_abs b)) ∷ vec p ∷ num (pos (nat_abs a)) ∷ vec q ∷ []) ((x 0 *v v 1) +v (x 2 *v v 3))
    ((x 2 *v v 3) +v (x 0 *v v 1)) tt in
    λ i. opposite_turned a b i && is_inside (lies (over (w i) (pos (m i))) g)

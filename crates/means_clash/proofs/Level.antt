-- The plane that the loop search finds while it goes: it stays, once it is there.
use mathlib.Core.List.{[], ◌∷◌}
use mathlib.Core.Path.{◌≡◌}
use lib.IntN.{pos}
use Rattle.exact.proofs.Ring.{con, ring}
use Rattle.paper.specs.Points.{dot, cross}
use Rattle.paper.specs.declared.Point.{Point}
use Rattle.means_clash.proofs.Combine.{vars, dot_e, cross_e}

-- a direction across e and p is across p
pub own_zero : (e p : Point) → dot (cross e p) p ≡ pos 0
unfolding dot cross
own_zero e p = ring (e.x ∷ e.y ∷ e.z ∷ p.x ∷ p.y ∷ p.z ∷ []) (dot_e (cross_e (vars 0 1 2) (vars 3 4 5)) (vars 3 4 5)) (con (pos 0)) tt

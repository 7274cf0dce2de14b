-- Neighbour words of a drawing in range: its ends are few enough.
use mathlib.Core.List.{List}
use mathlib.Core.Path.{◌≡◌, subst}
use Prim.Native.Nat.{ℕ, ◌/◌}
use native.Mathlib.Omega.{arith}
use lib.IntN.{ℤ}
use lib.ListN.{length}
use Rattle.paper_laws.specs.InRange.{Ends, InRange}
use Rattle.drawing_links.specs.Neighbours.{FewEnds}

pub few_ends : {xyz : List ℤ} {ends : List ℕ} → InRange xyz ends → FewEnds ends (length xyz / 3)
few_ends {xyz} {ends} p =
    let e : p.vertices ≡ length xyz / 3 = omega (arith, p.points.whole) in
    record { most = omega (arith, p.most); links = subst (Ends ends) e p.links }

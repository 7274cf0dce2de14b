-- A drawing that passes 5, 8, 9 and 10: the ends of its edges rise and are vertices.
use mathlib.Core.Path.{◌≡◌}
use mathlib.Core.List.{List}
use Prim.Native.Nat.{ℕ, ◌+◌, ◌*◌, ◌/◌}
use native.Mathlib.Omega.{arith}
use lib.IntN.{ℤ}
use lib.ListN.{length}
use Rattle.paper_laws.proofs.Wires.{length_points, length_edges, edge-at}
use Rattle.paper.specs.Refusals.{first_of, Fine}
use Rattle.paper.specs.Sheet.{lent_checks}
use Rattle.paper.specs.Drawing.{edge, edge_at, wire}
use Rattle.sheet_laws.proofs.Lent.{contents, lent}
use Rattle.means_drawing.specs.Drawings.{Rising}

pub lent_rising : (xyz : List ℤ) (ends : List ℕ) → Fine ≡ first_of (lent_checks xyz ends) → Rising (wire xyz ends)
unfolding wire edge_at
lent_rising xyz ends h e l =
    let c = contents (length xyz / 3) xyz ends (lent xyz ends h).fine in
    let few = length_edges ends in
    rw (edge-at ends e (edge 0 0) l, length_points xyz) (c.rising e (omega arith), c.below (2 * e + 1) (omega arith))

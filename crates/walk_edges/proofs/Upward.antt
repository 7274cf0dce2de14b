-- The edges of a drawing in range go upwards.
use mathlib.Core.Path.{◌≡◌, sym, ◌∙◌}
use mathlib.Core.List.{List}
use Prim.Native.Nat.{ℕ, ◌+◌, ◌*◌}
use native.Mathlib.Omega.{arith}
use lib.IntN.{ℤ}
use lib.ListN.{get_or}
use Rattle.paper.specs.Drawing.{edge, wire}
use Rattle.paper_laws.specs.InRange.{InRange}
use Rattle.paper_laws.proofs.Wires.{length_edges, edge-at}
use Rattle.walk_edges.specs.Marks.{Upward}

pub upward_of : {xyz : List ℤ} {ends : List ℕ} → InRange xyz ends → Upward (wire xyz ends)
unfolding wire
upward_of {xyz} {ends} range e a b h q =
    let r = range.links in
    let s : edge (get_or ends (2 * e) 0) (get_or ends (2 * e + 1) 0) ≡ edge a b = sym (edge-at ends e (edge 0 0) h) ∙ q in
    let x : get_or ends (2 * e) 0 ≡ a = cc in
    let y : get_or ends (2 * e + 1) 0 ≡ b = cc in
    omega (arith, x, y, r.rising e (omega (arith, length_edges ends, r.whole)))

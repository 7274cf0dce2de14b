-- The midpoint of an edge, as the code finds it from the two lists and a row.
use mathlib.Core.Path.{◌≡◌, refl, sym, ap, ◌∙◌}
use mathlib.Core.List.{List}
use Prim.Native.Nat.{ℕ, ◌+◌, ◌*◌, ◌<◌}
use native.Mathlib.Omega.{arith}
use lib.IntN.{ℤ, pos}
use lib.ListN.{length, get_or}
use Rattle.paper.specs.Points.{plus}
use Rattle.paper.specs.Polygon.{over, midpoint, lies, is_outside}
use Rattle.paper.specs.Drawing.{Edge, edge, wire, at, edge_at}
use Rattle.paper.specs.Loops.{polygon}
use Rattle.paper.specs.declared.Point.{Point}
use Rattle.paper.specs.declared.Where.{Where}
use Rattle.paper_laws.proofs.Wires.{length_edges, edge-at}
use Rattle.polygon.specs.Rings.{point_of, loop_in, ring}
use Rattle.polygon.proofs.Drawn.{point_of_lem, polygon_is}
use Rattle.fast_tables.specs.Covers.{middle_outside}
use Rattle.loop_cover.specs.Midpoints.{outside_of, RowAndEdge}

module _ {xyz : List ℤ} {ends table : List ℕ} {k : ℕ} {m : Point} {e : ℕ} (q : RowAndEdge xyz ends table k m e) where
  abbrev first : ℕ
  first = get_or ends (2 * e) 0

  abbrev second : ℕ
  second = get_or ends (2 * e + 1) 0

  -- the edge has its ends in the list, and they are vertices
  pub ends_in_lem : 2 * e + 1 < length ends
  unfolding wire
  ends_in_lem = omega (arith, q.known, length_edges ends, q.range.links.whole)

  pub first-known : 3 * first + 2 < length xyz
  first-known = omega (arith, q.range.links.known (2 * e) (omega (arith, ends_in_lem)), q.range.points.whole)

  pub second-known : 3 * second + 2 < length xyz
  second-known = omega (arith, q.range.links.known (2 * e + 1) ends_in_lem, q.range.points.whole)

  -- where their sum over 2 lies
  pub outside_is : (w : Where) → w ≡ lies (over (plus (point_of xyz first) (point_of xyz second)) (pos 2)) (ring xyz table k)
      → is_outside w ≡ outside_of xyz ends table k e
  unfolding wire edge_at middle_outside at midpoint
  outside_is w s =
      let d = wire xyz ends in
      let l = loop_in table k in
      let a : point_of xyz first ≡ at d first = sym (point_of_lem xyz first first-known) in
      let b : point_of xyz second ≡ at d second = sym (point_of_lem xyz second second-known) in
      let g : ring xyz table k ≡ polygon d l = sym (polygon_is d q.face.row refl) in
      ap is_outside s
      ∙ (λ i. is_outside (lies (over (plus (a i) (b i)) (pos 2)) (g i)))
      ∙ ap (λ (x : Edge). middle_outside d l x) (sym (edge-at ends e (edge 0 0) q.known))

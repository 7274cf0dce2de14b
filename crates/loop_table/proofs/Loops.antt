-- The loops of a drawing in range: what is read of them, and their rows as polygons.
use mathlib.Core.Path.{◌≡◌, refl, sym, ap, ◌∙◌, subst}
use mathlib.Core.List.{List}
use Prim.Native.Nat.{ℕ, ◌≤◌, ◌<◌}
use native.Mathlib.Omega.{arith}
use lib.IntN.{ℤ}
use lib.ListN.{length, length-map}
use Rattle.lists.specs.Lists.{member}
use Rattle.lists.proofs.Places.{made_length}
use Rattle.sets.specs.Sets.{room}
use Rattle.paper.specs.Numbers.{most_corners}
use Rattle.paper.specs.Drawing.{Wire, wire}
use Rattle.paper.specs.Loops.{Loop, loop_at, loops, candidates, polygon}
use Rattle.paper.specs.Solids.{has}
use Rattle.paper_laws.specs.InRange.{InRange}
use Rattle.paper_laws.proofs.Wires.{length_points, length_edges}
use Rattle.polygon.specs.Rings.{ring, Row}
use Rattle.polygon.proofs.Drawn.{polygon_is}
use Rattle.fast_tables.specs.Hits.{corner_mask, side_mask}
use Rattle.fast_tables.proofs.Drawings.{loop_path, candidate_of, candidate_path}
use Rattle.means_loops.proofs.Listing.{loops_are}
use Rattle.loop_table.specs.Tables.{HoldsRows}
use Rattle.loop_table.specs.Loops.{LoopsOf}
use Rattle.loop_table.proofs.Rows.{rows_room, count_is, vertex_is, loop_is}

-- what the search finds are loops of the drawing
pub loops_of : (d : Wire) → LoopsOf d (loops d)
loops_of d = record { path = loop_path d; short = λ k h. (loops_are d k h).twelve }

-- so are the candidates
pub candidates_of_lem : (d : Wire) → LoopsOf d (candidates d)
candidates_of_lem d = record {
  path = candidate_path d;
  short = λ k h.
      let i = candidate_of d k h in
      subst (λ (l : Loop). length l ≤ most_corners) i.2 ((loops_of d).short i.0 i.1);
}

-- ---- the numbers of vertices and edges
module _ {xyz : List ℤ} {ends : List ℕ} (range : InRange xyz ends) where
  pub vertices_are : length (wire xyz ends).vertices ≡ range.vertices
  unfolding wire
  vertices_are = omega (arith, length_points xyz, range.points.whole)

  pub edges_are : length (wire xyz ends).edges ≡ range.links.edges
  unfolding wire
  edges_are = omega (arith, length_edges ends, range.links.whole)

  -- ---- their masks fit into a word
  pub corners_short : (l : Loop) → length (corner_mask (wire xyz ends) l) ≤ room
  unfolding corner_mask
  corners_short l = omega (arith, made_length (λ v. member v l) (length (wire xyz ends).vertices), vertices_are, range.most)

  pub sides_short : (l : Loop) → length (side_mask (wire xyz ends) l) ≤ room
  unfolding side_mask
  sides_short l = omega (arith, length-map (wire xyz ends).edges (λ e. has e l), edges_are, range.links.most)

  -- ---- a row of a table that holds loops
  module _ (table : List ℕ) {ls : List Loop} (of : LoopsOf (wire xyz ends) ls) (held : HoldsRows table ls) (k : ℕ) (h : k < length ls) where
    pub row_of : Row xyz table k
    row_of =
        let count = count_is table ls held of.short k h in
        record {
          near = range.points.near;
          room = omega (arith, rows_room table ls held of.short);
          least = omega (arith, count, (of.path k h).long);
          most = omega (arith, count, of.short k h);
          known =
              λ i m.
              let n : i < length (loop_at ls k) = omega (arith, count) in
              omega (arith, vertex_is table ls held of.short k h i n, (of.path k h).below i n, vertices_are, range.points.whole);
        }

    pub ring_of : ring xyz table k ≡ polygon (wire xyz ends) (loop_at ls k)
    unfolding wire
    ring_of = sym (polygon_is (wire xyz ends) row_of refl) ∙ ap (polygon (wire xyz ends)) (loop_is table ls held of.short k h)

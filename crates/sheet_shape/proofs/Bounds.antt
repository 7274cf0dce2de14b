-- What the code that reads a drawing off a sheet that passes 3 to 7 needs to know.
use mathlib.Core.Path.{◌≡◌, sym, ◌∙◌, ap, ap₂}
use mathlib.Core.List.{List}
use Prim.Native.Nat.{ℕ, ◌≤◌, ◌+◌, ◌*◌, ◌/◌}
use native.Mathlib.Nat.{mul_assoc, mul_left_comm}
use native.Mathlib.Omega.{arith}
use lib.ListN.{length}
use Rattle.sheet_laws.proofs.Shaped.{shaped}
use Rattle.paper.specs.Numbers.{most_vertices, most_edges}
use Rattle.paper.specs.Refusals.{first_of, Fine}
use Rattle.paper.specs.Format.{total, bytes_for, vertices_in, edges_in}
use Rattle.paper.specs.Sheet.{shape_checks}
use Rattle.paper.specs.declared.Format.{Format}
use Rattle.sheet_shape.specs.Narrow.{narrow_bits, few_edges, FitsDrawing, NarrowCounts}
use Rattle.sheet_shape.proofs.Sizes.{numbers_small}

-- of its own v and e
pub record Bounds (f : Format) (s : List ℕ) (v e : ℕ) : Type 0 where
  pub v_most : v ≤ most_vertices
  pub e_most : e ≤ most_edges
  pub long : 3 ≤ length s
  pub fits : total f v e ≤ length s * 8
  pub few : 2 * f.vertex_number_bits * e ≤ 2 * narrow_bits * few_edges
  pub twice : f.vertex_number_bits * (2 * e) ≡ 2 * f.vertex_number_bits * e

module _ (f : Format) (s : List ℕ) {v e : ℕ} (g : FitsDrawing f) where
  pub bounds : Fine ≡ first_of (shape_checks f s) → v ≡ vertices_in f s → e ≡ edges_in f s → Bounds f s v e
  bounds o hv he =
      let h = shaped f s o in
      let k = h.counts_are in
      let t : total f (vertices_in f s) (edges_in f s) ≡ total f v e = ap₂ (λ (x y : ℕ). total f x y) (sym hv) (sym he) in
      let a : v ≤ most_vertices = omega (arith, k.v_most, g.v_held) in
      let b : e ≤ most_edges = omega (arith, k.e_most, g.e_held) in
      let n : NarrowCounts f v e = record { narrow = g.narrow; v_few = omega arith; e_few = omega arith } in
      let d : length s ≡ bytes_for (total f v e) = h.close_is.sized ∙ ap bytes_for t in
      record {
        v_most = a;
        e_most = b;
        long = h.open_is.long;
        fits = rw d (up (total f v e));
        few = numbers_small n;
        twice = mul_left_comm f.vertex_number_bits 2 e ∙ sym (mul_assoc 2 f.vertex_number_bits e);
      }
    where
      up : (n : ℕ) → n ≤ (n + 7) / 8 * 8
      up n = omega arith

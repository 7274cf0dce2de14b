-- The drawing that an accepted sheet holds is in range.
use mathlib.Core.Path.{◌≡◌, sym, ap, ◌∙◌, subst}
use mathlib.Core.List.{List}
use Prim.Native.Nat.{ℕ, ◌*◌, ◌≤◌}
use native.Mathlib.Nat.{le_trans}
use native.Mathlib.Omega.{arith}
use lib.IntN.{pos}
use lib.ListN.{length}
use Rattle.pack.proofs.Fill.{length-padded, take_padded}
use Rattle.paper.specs.Numbers.{most_vertices, most_edges}
use Rattle.paper.specs.Format.{vertices_in, edges_in, coordinates_in, ends_in, edition_of}
use Rattle.paper.specs.Sheet.{held, sheet_of, read_sheet}
use Rattle.paper.specs.Refusals.{Fine}
use Rattle.paper_laws.specs.InRange.{Held}
use Rattle.drawing_lists.proofs.Range.{points_are, ends_are}
use Rattle.sheet_laws.proofs.Accepted.{length_coordinates, length-ends}
use Rattle.sheet_laws.proofs.Accepted.{accepted_shape, accepted_contents, returns}
use Rattle.paper_laws.proofs.Editions.{limited_of}

pub read_range : (s : List ℕ) → Fine ≡ (read_sheet s).answer → Held (read_sheet s).drawing
unfolding sheet_of
read_range s h =
    let f = edition_of s in
    let held_by = limited_of s in
    let v = vertices_in f s in
    let e = edges_in f s in
    let xyz = coordinates_in f s in
    let ends = ends_in f s in
    let three = length_coordinates f s in
    let two = length-ends f s in
    let k = (accepted_shape f s h).counts_are in
    let fine = accepted_contents f s h in
    let xyz-fit : length xyz ≤ 3 * most_vertices = omega (arith, k.v_most, held_by.v_held, three) in
    let ends-fit : length ends ≤ 2 * most_edges = omega (arith, k.e_most, held_by.e_held, two) in
    let all : Held (held v e xyz ends) =
    record {
      least = k.v_least;
      most = le_trans k.v_most held_by.v_held;
      few = le_trans k.e_most held_by.e_held;
      xyz_room = omega (arith, k.v_most, length-padded xyz _ (pos 0) xyz-fit);
      ends_room = omega (arith, k.e_most, length-padded ends _ 0 ends-fit);
      ends_whole = ap length (take_padded ends _ (2 * e) 0 two) ∙ two;
      points = rw (take_padded xyz _ (3 * v) (pos 0) three) (points_are xyz ends v e three two fine);
      links = rw (take_padded ends _ (2 * e) 0 two) (ends_are xyz ends v e three two fine k.e_least (le_trans k.e_most held_by.e_held));
    } in
    subst Held (sym (returns f s h)) all

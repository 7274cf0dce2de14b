-- What a sheet that passes refusals 3 to 10 is, and the drawing that reading it returns.
use mathlib.Core.Path.{◌≡◌, sym, ap, ◌∙◌}
use mathlib.Core.List.{List}
use Prim.Native.Nat.{ℕ, ◌+◌, ◌*◌}
use lib.IntN.{pos}
use lib.ListN.{length, take, length-map}
use Rattle.pack.specs.Bits.{fields_at}
use Rattle.pack.proofs.Laws.{length_fields}
use Rattle.pack.proofs.Fill.{take_padded}
use Rattle.paper_laws.proofs.Checks.{first-both}
use Rattle.paper.specs.Numbers.{most_vertices, most_edges}
use Rattle.paper.specs.Refusals.{first_of, Answer, Fine}
use Rattle.paper.specs.Format.{coordinate, head, vertices_in, edges_in, coordinates_in, ends_in}
use Rattle.paper.specs.Sheet.{content_checks, shape_checks, sheet_checks, held, drawn_for, sheet_of}
use Rattle.paper.specs.declared.Format.{Format}
use Rattle.sheet_laws.proofs.Shaped.{Shaped, shaped}

module _ (f : Format) (s : List ℕ) where
  -- as many coordinates and vertex numbers as the counts say
  pub length_coordinates : length (coordinates_in f s) ≡ 3 * vertices_in f s
  length_coordinates =
      length-map (fields_at s (head f) 11 (3 * vertices_in f s)) coordinate ∙ length_fields s (head f) 11 (3 * vertices_in f s)

  pub length-ends : length (ends_in f s) ≡ 2 * edges_in f s
  length-ends = length_fields s (head f + 33 * vertices_in f s) f.vertex_number_bits (2 * edges_in f s)

module _ (f : Format) (s : List ℕ) (h : Fine ≡ first_of (sheet_checks f s)) where
  both : (Fine ≡ first_of (shape_checks f s)) × (Fine ≡ first_of (content_checks (vertices_in f s) (coordinates_in f s) (ends_in f s)))
  unfolding sheet_checks
  both = first-both (shape_checks f s) _ h

  pub accepted_shape : Shaped f s
  accepted_shape = shaped f s both.0

  pub accepted_contents : Fine ≡ first_of (content_checks (vertices_in f s) (coordinates_in f s) (ends_in f s))
  accepted_contents = both.1

  pub returns : (sheet_of f s).drawing ≡ held (vertices_in f s) (edges_in f s) (coordinates_in f s) (ends_in f s)
  unfolding sheet_of
  returns = ap (λ (a : Answer). drawn_for a (held (vertices_in f s) (edges_in f s) (coordinates_in f s) (ends_in f s))) (sym h)

  pub coordinates_are : coordinates_in f s ≡ take (3 * (sheet_of f s).drawing.vertices) (sheet_of f s).drawing.xyz
  coordinates_are = rw returns (sym (take_padded (coordinates_in f s) (3 * most_vertices) (3 * vertices_in f s) (pos 0) (length_coordinates f s)))

  pub ends_are : ends_in f s ≡ take (2 * (sheet_of f s).drawing.edges) (sheet_of f s).drawing.ends
  ends_are = rw returns (sym (take_padded (ends_in f s) (2 * most_edges) (2 * edges_in f s) 0 (length-ends f s)))

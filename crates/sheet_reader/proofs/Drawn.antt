-- The drawing that is read off a sheet is the definition's.
use mathlib.Core.Path.{◌≡◌, ◌∙◌, ap, ap₂}
use mathlib.Core.List.{List, map}
use Prim.Native.Nat.{ℕ, ◌+◌, ◌*◌}
use lib.IntN.{ℤ, pos}
use Rattle.pack.specs.Bits.{fields_at}
use Rattle.pack.proofs.Fill.{take_padded}
use Rattle.paper_laws.proofs.Checks.{first_stops, first_passes}
use Rattle.paper.specs.Refusals.{first_of, Answer, Fine}
use Rattle.paper.specs.Format.{coordinate_bits, coordinate, head, vertices_in, edges_in, coordinates_in, ends_in}
use Rattle.paper.specs.Sheet.{content_checks, shape_checks, sheet_checks, drawn_for, held, blank, sheet_of}
use Rattle.paper.specs.declared.Format.{Format}
use Rattle.paper.specs.declared.Refusal.{Refusal}
use Rattle.std.specs.Prelude.{Err}
use Rattle.paper.specs.Sheet.{Sheet}
use Rattle.sheet_laws.proofs.Accepted.{length_coordinates, length-ends}
use Rattle.sheet_reader.specs.Kept.{held_xyz, held_ends, kept_of}

module _ (f : Format) (s : List ℕ) where
  -- what the definition gives for each answer
  at-answer : Answer → Sheet
  at-answer a =
      let d = held (vertices_in f s) (edges_in f s) (coordinates_in f s) (ends_in f s) in
      record { answer = a; drawing = drawn_for a d }

  -- the fields of v vertices and of e edges
  abbrev pub xyz_at : ℕ → List ℤ
  xyz_at v = held_xyz (map coordinate (fields_at s (head f) coordinate_bits (3 * v)))

  abbrev pub ends_at : ℕ → ℕ → List ℕ
  ends_at v e = held_ends (fields_at s (head f + 3 * coordinate_bits * v) f.vertex_number_bits (2 * e))

  pub sheet_misshapen : {r : Refusal} → Err r ≡ first_of (shape_checks f s)
      → record { answer = Err r; drawing = blank } ≡ sheet_of f s
  unfolding sheet_of sheet_checks at-answer
  sheet_misshapen e = ap at-answer (first_stops (shape_checks f s) _ e)

  module _ {v e : ℕ} {xyz : List ℤ} {ends : List ℕ} (o : Fine ≡ first_of (shape_checks f s)) (hv : v ≡ vertices_in f s)
      (he : e ≡ edges_in f s) (hx : xyz ≡ xyz_at v) (hn : ends ≡ ends_at v e) where
    -- the code's four values are those of the sheet
    values
        : kept_of v e xyz ends ≡ kept_of (vertices_in f s) (edges_in f s) (held_xyz (coordinates_in f s)) (held_ends (ends_in f s))
    values =
        let x : xyz ≡ held_xyz (coordinates_in f s) = hx ∙ ap xyz_at hv in
        let n : ends ≡ held_ends (ends_in f s) = hn ∙ ap₂ ends_at hv he in
        λ i. kept_of (hv i) (he i) (x i) (n i)

    -- 3 to 7 pass, so the answer is that of 8 to 10
    answers
        : first_of (content_checks (vertices_in f s) (coordinates_in f s) (ends_in f s)) ≡ first_of (sheet_checks f s)
    unfolding sheet_checks
    answers = first_passes (shape_checks f s) _ o

    pub drawn_is : kept_of v e xyz ends ≡ sheet_of f s
    unfolding kept_of sheet_of at-answer
    drawn_is =
        let x = take_padded (coordinates_in f s) _ (3 * vertices_in f s) (pos 0) (length_coordinates f s) in
        let n = take_padded (ends_in f s) _ (2 * edges_in f s) 0 (length-ends f s) in
        values ∙ ap at-answer (ap₂ (λ (x : List ℤ) (y : List ℕ). first_of (content_checks (vertices_in f s) x y)) x n ∙ answers)

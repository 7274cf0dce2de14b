-- A drawing that a sheet can hold, written out, is read again.
use mathlib.Core.Path.{◌≡◌, refl, sym, ap, ap₂, ◌∙◌}
use mathlib.Core.Bool.{Bool, true, false, not}
use mathlib.Core.List.{List, [], ◌∷◌, ◌++◌, map, append_assoc}
use Prim.Native.Nat.{ℕ, zero, suc, ◌<◌, ◌+◌, ◌*◌, ◌/◌, ◌^◌}
use native.Mathlib.Nat.{lt_of_lt_of_le, lt_of_le_of_lt, le_trans}
use native.Mathlib.Omega.{arith}
use borrow.Author.Tests.{le-ltb, eq-eqb, ltb-true, ltb-false}
use lib.Pow.{pow_pos}
use lib.Dec.{ltb}
use lib.IntN.{ℤ}
use lib.ListN.{length, get_or, length-append, length-map, get_or-eq_default}
use Rattle.pack.specs.Bits.{bits, run, field_at, Under}
use Rattle.pack.proofs.Laws.{length_bits}
use Rattle.pack.proofs.Trip.{field_in, fields_in}
use Rattle.paper_laws.proofs.Checks.{clear, fails, first_passes}
use Rattle.paper_laws.proofs.Limits.{not_outside}
use Rattle.paper.specs.Refusals.{first_of, Answer, Fine}
use Rattle.paper.specs.Format.{head, total, bytes_for, fill_after, head_bits, on_sheet, coordinate, vertices_in, edges_in, coordinates_in}
use Rattle.paper.specs.Format.{ends_in, encode}
use Rattle.paper.specs.Sheet.{content_checks, open_checks, count_checks, close_checks, shape_checks, sheet_checks, drawn_for, held, sheet_of}
use Rattle.paper.specs.declared.Format.{Format}
use Rattle.sheet_laws.specs.Near.{Near}
use Rattle.paper_laws.proofs.Coordinate.{near}
use Rattle.sheet_laws.proofs.Shaped.{Opened, Counted, Closed, Shaped}
use Rattle.sheet_laws.proofs.Lent.{Contents, contents, Lent}
use Rattle.sheet_laws.proofs.Encoded.{length_head, length-placed, length_content, under_content}
use Rattle.means_sheets.specs.Sound.{Sound}
use Rattle.means_sheets.proofs.Filled.{zeros, length-filled, run-filled, fill_filled}
use Rattle.paper_laws.specs.Editions.{FitsEdition}

-- ---- coordinates in range come back

map_near : (xyz : List ℤ) → Near xyz → map coordinate (map on_sheet xyz) ≡ xyz
map_near [] h = refl
map_near (z ∷ xyz) h = ap₂ (λ (a : ℤ) (t : List ℤ). a ∷ t) (near z (h zero)).1 (map_near xyz (λ k. h (suc k)))

near-under : (xyz : List ℤ) → Near xyz → Under (2 ^ 11) (map on_sheet xyz)
near-under [] h i = omega arith
near-under (z ∷ xyz) h zero = omega (arith, (near z (h zero)).0)
near-under (z ∷ xyz) h (suc i) = near-under xyz (λ k. h (suc k)) i

-- ---- a sheet with these facts passes refusals 3 to 7

module _ (f : Format) (s : List ℕ) where
  open_passes : Opened f s → Fine ≡ first_of (open_checks f s)
  unfolding open_checks
  open_passes g =
      clear
      ∙ fails _ _ _ (ap not (eq-eqb (field_at s 0 4) f.edition g.edition))
      ∙ fails _ _ _ (le-ltb (length s) 3 g.long)

  count_passes : (v e : ℕ) → Counted f v e → Fine ≡ first_of (count_checks f v e)
  unfolding count_checks
  count_passes v e g =
      clear ∙ fails _ _ _ (not_outside 6 f.most_edges e g.e_least g.e_most)
      ∙ fails _ _ _ (not_outside 4 f.most_vertices v g.v_least g.v_most)

  close_passes : (v e : ℕ) → Closed f s v e → Fine ≡ first_of (close_checks f s v e)
  unfolding close_checks
  close_passes v e g =
      clear
      ∙ fails _ _ _ (ap not (eq-eqb (fill_after (total f v e) s) 0 g.filled))
      ∙ fails _ _ _ (ap not (eq-eqb (length s) (bytes_for (total f v e)) g.sized))

  shape_passes : Shaped f s → Fine ≡ first_of (shape_checks f s)
  unfolding shape_checks
  shape_passes g =
      let v = vertices_in f s in
      let e = edges_in f s in
      let o : Fine ≡ first_of (open_checks f s ++ count_checks f v e) = count_passes v e g.counts_are
      ∙ first_passes (open_checks f s) _ (open_passes g.open_is) in
      close_passes v e g.close_is ∙ first_passes (open_checks f s ++ count_checks f v e) _ o

-- ---- what stands in the bytes of a drawing's sheet

module _ (f : Format) (sound : Sound f) (xyz : List ℤ) (ends : List ℕ) (g : Lent xyz ends)
    (room : FitsEdition f (length xyz / 3) (length ends / 2)) where
  abbrev v : ℕ
  v = length xyz / 3

  abbrev e : ℕ
  e = length ends / 2

  abbrev s : List ℕ
  s = encode f xyz ends

  abbrev points : List ℕ
  points = run 11 (map on_sheet xyz)

  abbrev numbers : List ℕ
  numbers = run f.vertex_number_bits ends

  abbrev fill : List ℕ
  fill = zeros (total f v e) (head_bits f v e ++ points ++ numbers)

  run_s : run 8 s ≡ head_bits f v e ++ points ++ numbers ++ fill
  unfolding encode
  run_s =
      run-filled (total f v e) (head_bits f v e ++ points ++ numbers)
      (under_content f xyz ends v e g.v_whole g.e_whole) (length_content f xyz ends v e g.v_whole g.e_whole)

  -- field by field
  nested : run 8 s ≡ bits 4
      f.edition ++ (bits f.vertex_count_bits v ++ (bits f.edge_count_bits e ++ (points ++ (numbers ++ fill))))
  nested = run_s ∙ simp append_assoc

  at_edition : field_at s 0 4 ≡ f.edition
  at_edition =
      field_in s [] (bits f.vertex_count_bits v ++ (bits f.edge_count_bits e ++ (points ++ (numbers ++ fill)))) 0 refl 4
      f.edition nested sound.edition_fits

  at_vertices : vertices_in f s ≡ v
  at_vertices =
      field_in s (bits 4 f.edition) (bits f.edge_count_bits e ++ (points ++ (numbers ++ fill))) 4 (length_bits 4 f.edition)
      f.vertex_count_bits v nested (lt_of_le_of_lt room.v_fits sound.vertices_fit)

  at_edges : edges_in f s ≡ e
  at_edges =
      field_in s (bits 4 f.edition ++ bits f.vertex_count_bits v) (points ++ (numbers ++ fill)) (4 + f.vertex_count_bits)
      (length-append (bits 4 f.edition) (bits f.vertex_count_bits v)
      ∙ ap₂ (λ (x y : ℕ). x + y) (length_bits 4 f.edition) (length_bits f.vertex_count_bits v))
      f.edge_count_bits e (run_s ∙ simp append_assoc) (lt_of_le_of_lt room.e_fits sound.edges_fit)

  holds : Contents v xyz ends
  holds = contents v xyz ends g.fine

  at-coordinates : coordinates_in f s ≡ xyz
  at-coordinates =
      ap (map coordinate)
      (fields_in s (head_bits f v e) (numbers ++ fill) (head f) (length_head f v e)
      11 (map on_sheet xyz) (3 * vertices_in f s) (omega (arith, at_vertices, g.v_whole, length-map xyz on_sheet))
      (run_s ∙ simp append_assoc) (near-under xyz holds.near))
      ∙ map_near xyz holds.near

  under-ends : Under (2 ^ f.vertex_number_bits) ends
  under-ends k = go (ltb k (length ends)) refl
    where
      go : (b : Bool) → ltb k (length ends) ≡ b → get_or ends k 0 < 2 ^ f.vertex_number_bits
      go true t =
          lt_of_lt_of_le (holds.below k (omega (arith, ltb-true k (length ends) t, g.e_whole)))
          (le_trans room.v_fits sound.numbers_fit)
      go false t = rw (get_or-eq_default ends 0 (ltb-false k (length ends) t)) (pow_pos f.vertex_number_bits)

  at-ends : ends_in f s ≡ ends
  at-ends =
      fields_in s (head_bits f v e ++ points) fill (head f + 33 * vertices_in f s)
      (length-placed f xyz ends v e g.v_whole g.e_whole ∙ ap (λ (n : ℕ). head f + 33 * n) (sym at_vertices))
      f.vertex_number_bits ends (2 * edges_in f s) (ap (λ (n : ℕ). 2 * n) at_edges ∙ sym g.e_whole)
      (run_s ∙ simp append_assoc) under-ends

  length_s : length s ≡ bytes_for (total f v e)
  unfolding encode
  length_s = length-filled (total f v e) (head_bits f v e ++ points ++ numbers)

  fill_s : fill_after (total f v e) s ≡ 0
  unfolding encode
  fill_s =
      fill_filled (total f v e) (head_bits f v e ++ points ++ numbers)
      (under_content f xyz ends v e g.v_whole g.e_whole) (length_content f xyz ends v e g.v_whole g.e_whole)

  shaped_s : Shaped f s
  shaped_s = record {
    open_is = record { long = omega (arith, length_s, g.v_least); edition = at_edition };
    counts_are = record {
      v_least = omega (arith, at_vertices, g.v_least);
      v_most = omega (arith, at_vertices, room.v_fits);
      e_least = omega (arith, at_edges, g.e_least);
      e_most = omega (arith, at_edges, room.e_fits);
    };
    close_is = record {
      sized = length_s ∙ ap₂ (λ (a b : ℕ). bytes_for (total f a b)) (sym at_vertices) (sym at_edges);
      filled = ap₂ (λ (a b : ℕ). fill_after (total f a b) s) at_vertices at_edges ∙ fill_s;
    };
  }

  fine_s : Fine ≡ first_of (sheet_checks f s)
  unfolding sheet_checks
  fine_s =
      g.fine ∙ (λ i. first_of (content_checks (sym at_vertices i) (sym at-coordinates i) (sym at-ends i)))
      ∙ first_passes (shape_checks f s) _ (shape_passes f s shaped_s)

  pub read_written : sheet_of f s ≡ record { answer = Fine; drawing = held v e xyz ends }
  unfolding sheet_of
  read_written =
      ap
      (λ (a : Answer). record { answer = a; drawing = drawn_for a (held (vertices_in f s) (edges_in f s) (coordinates_in f s) (ends_in f s)) })
      (sym fine_s)
      ∙ (λ i. record { answer = Fine; drawing = held (at_vertices i) (at_edges i) (at-coordinates i) (at-ends i) })

-- An accepted sheet is the one that its drawing is written to, and the writer takes that drawing.
use mathlib.Core.Path.{◌≡◌, refl, sym, ap, ap₂, ◌∙◌}
use mathlib.Core.Bool.{false}
use mathlib.Core.List.{List, [], ◌∷◌, ◌++◌, map}
use Prim.Native.Nat.{ℕ, ◌≤◌, ◌+◌, ◌*◌, ◌/◌, ◌%◌, ◌^◌}
use native.Mathlib.Nat.{mul_assoc, mul_comm, le_trans, le_of_eq}
use native.Mathlib.Omega.{arith}
use borrow.Author.Tests.{eq-eqb}
use lib.ListN.{length, take, drop}
use lib.Seq.{take-add}
use Rattle.pack.specs.Bits.{bits, run, fields_at, Under}
use Rattle.pack.proofs.Trip.{bits_field, run_fields}
use Rattle.paper_laws.proofs.Checks.{fails}
use Rattle.paper_laws.proofs.Limits.{not_outside}
use Rattle.paper.specs.Numbers.{least_vertices, most_vertices, least_edges, most_edges}
use Rattle.paper.specs.Refusals.{first_of, Fine}
use Rattle.paper.specs.Format.{head, total, filled, head_bits, on_sheet, coordinate, vertices_in, edges_in, coordinates_in, ends_in, encode}
use Rattle.paper.specs.Sheet.{content_checks, sheet_checks, lent_checks, bad_count, sheet_of}
use Rattle.paper.specs.declared.Format.{Format}
use Rattle.paper.specs.declared.Drawing.{Drawing}
use Rattle.sheet_laws.proofs.Accepted.{accepted_shape, accepted_contents, coordinates_are, ends_are}
use Rattle.paper_laws.proofs.Coordinate.{on_sheet-coordinate}
use Rattle.sheet_laws.proofs.Accepted.{length_coordinates, length-ends}
use Rattle.sheet_laws.proofs.Shaped.{Shaped}
use Rattle.means_sheets.proofs.Filled.{bytes_hold, filled-again}
use Rattle.paper_laws.specs.Editions.{Limited}

map_back : (ns : List ℕ) → map on_sheet (map coordinate ns) ≡ ns
map_back [] = refl
map_back (n ∷ ns) = ap₂ (λ (a : ℕ) (t : List ℕ). a ∷ t) (on_sheet-coordinate n) (map_back ns)

module _ (f : Format) (s : List ℕ) (g : Shaped f s) where
  abbrev v : ℕ
  v = vertices_in f s

  abbrev e : ℕ
  e = edges_in f s

  abbrev all : List ℕ
  all = run 8 s

  room : total f v e ≤ length s * 8
  room = le_trans (bytes_hold (total f v e)) (le_of_eq (ap (λ (n : ℕ). n * 8) (sym g.close_is.sized)))

  v_is : length (coordinates_in f s) / 3 ≡ v
  v_is = rw (length_coordinates f s) (omega arith)

  e_is : length (ends_in f s) / 2 ≡ e
  e_is = rw (length-ends f s) (omega arith)

  -- the head's fields, then the coordinates, then the vertex numbers: each packs to the bits that it was read from
  at_head : head_bits f v e ≡ take (head f) all
  at_head =
      ap₂ (λ (x y : List ℕ). x ++ y)
      (ap₂ (λ (x y : List ℕ). x ++ y)
      (ap (bits 4) (sym g.open_is.edition) ∙ bits_field s 0 4 (omega (arith, room)))
      (bits_field s 4 f.vertex_count_bits (omega (arith, room)))
      ∙ sym (take-add 4 f.vertex_count_bits all))
      (bits_field s (4 + f.vertex_count_bits) f.edge_count_bits (omega (arith, room)))
      ∙ sym (take-add (4 + f.vertex_count_bits) f.edge_count_bits all)

  at_points : head_bits f v e ++ run 11 (map on_sheet (coordinates_in f s)) ≡ take (head f + 33 * v) all
  at_points =
      let m : 3 * v * 11 ≡ 33 * v = omega arith in
      ap₂ (λ (x y : List ℕ). x ++ y) at_head
      (ap (run 11) (map_back (fields_at s (head f) 11 (3 * v)))
      ∙ run_fields s (head f) 11 (3 * v) (omega (arith, room)) ∙ ap (λ (n : ℕ). take n (drop (head f) all)) m)
      ∙ sym (take-add (head f) (33 * v) all)

  at_numbers : head_bits f v e ++ run 11 (map on_sheet (coordinates_in f s)) ++ run f.vertex_number_bits (ends_in f s) ≡ take
      (total f v e) all
  at_numbers =
      let m : 2 * e * f.vertex_number_bits ≡ 2 * f.vertex_number_bits * e = mul_assoc 2 e f.vertex_number_bits
      ∙ ap (λ (n : ℕ). 2 * n) (mul_comm e f.vertex_number_bits) ∙ sym (mul_assoc 2 f.vertex_number_bits e) in
      ap₂ (λ (x y : List ℕ). x ++ y) at_points
      (run_fields s (head f + 33 * v) f.vertex_number_bits (2 * e) (omega (arith, room, m))
      ∙ ap (λ (n : ℕ). take n (drop (head f + 33 * v) all)) m)
      ∙ sym (take-add (head f + 33 * v) (2 * f.vertex_number_bits * e) all)

  pub written_again : Under (2 ^ 8) s → encode f (coordinates_in f s) (ends_in f s) ≡ s
  unfolding encode
  written_again u =
      ap₂
      (λ (a b : ℕ). filled (total f a b)
      (head_bits f a b ++ run 11 (map on_sheet (coordinates_in f s)) ++ run f.vertex_number_bits (ends_in f s))) v_is e_is
      ∙ filled-again (total f v e)
      (head_bits f v e ++ run 11 (map on_sheet (coordinates_in f s)) ++ run f.vertex_number_bits (ends_in f s)) s u
      g.close_is.sized g.close_is.filled at_numbers

good_count : (k lo hi n m : ℕ) → n % k ≡ 0 → n / k ≡ m → lo ≤ m → m ≤ hi → bad_count k lo hi n ≡ false
good_count k lo hi n m w e a b = rw (eq-eqb (n % k) 0 w, e) (not_outside lo hi m a b)

module _ (f : Format) (held : Limited f) (s : List ℕ) (h : Fine ≡ first_of (sheet_checks f s)) where
  -- the writer takes what the reader accepted
  pub accepted-lent : Fine ≡ first_of (lent_checks (coordinates_in f s) (ends_in f s))
  unfolding lent_checks
  accepted-lent =
      let g = accepted_shape f s h in
      let k = g.counts_are in
      let w3 : length (coordinates_in f s) % 3 ≡ 0 = rw (length_coordinates f s) (omega arith) in
      let w2 : length (ends_in f s) % 2 ≡ 0 = rw (length-ends f s) (omega arith) in
      accepted_contents f s h
      ∙ ap (λ (n : ℕ). first_of (content_checks n (coordinates_in f s) (ends_in f s))) (sym (v_is f s g))
      ∙ fails _ _ _ (good_count 2 least_edges most_edges (length (ends_in f s)) (edges_in f s) w2 (e_is f s g) k.e_least
      (le_trans k.e_most held.e_held))
      ∙ fails _ _ _
      (good_count 3 least_vertices most_vertices (length (coordinates_in f s)) (vertices_in f s) w3 (v_is f s g) k.v_least
      (le_trans k.v_most held.v_held))

pub same_lists : (f g : Format) (s t : List ℕ) → Fine ≡ first_of (sheet_checks f s) → Fine ≡ first_of (sheet_checks g t)
    → (sheet_of f s).drawing ≡ (sheet_of g t).drawing
    → (coordinates_in f s ≡ coordinates_in g t) × (ends_in f s ≡ ends_in g t)
same_lists f g s t hs ht e = (
  coordinates_are f s hs ∙ ap (λ (d : Drawing). take (3 * d.vertices) d.xyz) e ∙ sym (coordinates_are g t ht),
  ends_are f s hs ∙ ap (λ (d : Drawing). take (2 * d.edges) d.ends) e ∙ sym (ends_are g t ht),
)

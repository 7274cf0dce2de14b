-- Faces that a face list can hold, written out, are read again.
use mathlib.Core.Path.{◌≡◌, refl, sym, ap, ap₂, ◌∙◌}
use mathlib.Core.Bool.{true}
use mathlib.Core.List.{List, [], ◌++◌, append_assoc, flat_map}
use Prim.Native.Nat.{ℕ, ◌≤◌, ◌+◌, ◌*◌, ◌^◌}
use native.Mathlib.Nat.{lt_of_le_of_lt}
use native.Mathlib.Omega.{arith}
use lib.ListN.{length, drop, length-append}
use lib.Seq.{drop_at}
use Rattle.pack.specs.Bits.{bits, run, field_at}
use Rattle.pack.specs.Fill.{padded}
use Rattle.pack.proofs.Laws.{length_bits}
use Rattle.pack.proofs.Trip.{field_in}
use Rattle.paper.specs.Numbers.{most_faces, row_bytes}
use Rattle.paper.specs.Format.{bytes_for, fill_after}
use Rattle.paper.specs.FaceList.{face_bits, list_bits, encode_faces, faces_at, count_in, faces_in, bits_of, well_shaped, faces_of}
use Rattle.paper.specs.Loops.{Loop, row}
use Rattle.paper.specs.declared.Format.{Format}
use Rattle.paper.specs.Refusals.{Fine}
use Rattle.faces_laws.proofs.Packed.{length_list, under_list}
use Rattle.means_sheets.specs.Sound.{Sound}
use Rattle.means_sheets.specs.FaceLists.{Sendable}
use Rattle.means_sheets.proofs.Filled.{zeros, length-filled, run-filled, fill_filled}
use Rattle.means_sheets.proofs.FaceLists.Packed.{faces_back}
use Rattle.means_sheets.proofs.FaceLists.Shape.{shape_is, sendable_fits, fit}

module _ (f : Format) (sound : Sound f) (v : ℕ) (w : v ≤ 2 ^ f.vertex_number_bits) (fs : List Loop) (g : Sendable f v fs) where
  abbrev s : List ℕ
  s = encode_faces f fs

  abbrev fill : List ℕ
  fill = zeros (length (list_bits f fs)) (list_bits f fs)

  run_s : run 8 s ≡ bits 4 f.edition ++ (bits f.face_count_bits (length fs) ++ (flat_map (face_bits f) fs ++ fill))
  unfolding encode_faces list_bits
  run_s = run-filled (length (list_bits f fs)) (list_bits f fs) (under_list f fs) refl ∙ simp append_assoc

  at_edition : field_at s 0 4 ≡ f.edition
  at_edition =
      field_in s [] (bits f.face_count_bits (length fs) ++ (flat_map (face_bits f) fs ++ fill)) 0 refl 4 f.edition run_s
      sound.edition_fits

  at_count : count_in f s ≡ length fs
  at_count =
      field_in s (bits 4 f.edition) (flat_map (face_bits f) fs ++ fill) 4 (length_bits 4 f.edition) f.face_count_bits (length fs)
      run_s
      (lt_of_le_of_lt g.most sound.faces_fit)

  behind : drop (4 + f.face_count_bits) (run 8 s) ≡ flat_map (face_bits f) fs ++ fill
  behind =
      ap (drop (4 + f.face_count_bits))
      (run_s ∙ sym (append_assoc (bits 4 f.edition) (bits f.face_count_bits (length fs)) (flat_map (face_bits f) fs ++ fill)))
      ∙ drop_at (bits 4 f.edition ++ bits f.face_count_bits (length fs)) (flat_map (face_bits f) fs ++ fill)
      (4 + f.face_count_bits)
      (length-append (bits 4 f.edition) (bits f.face_count_bits (length fs))
      ∙ ap₂ (λ (x y : ℕ). x + y) (length_bits 4 f.edition) (length_bits f.face_count_bits (length fs)))

  pub faces-read_back : faces_in f s ≡ fs
  unfolding faces_in
  faces-read_back = ap₂ (faces_at f) at_count behind ∙ faces_back f fs fill (fit f v w fs (sendable_fits f v fs g))

  pub faces-accepted : well_shaped f v s ≡ true
  unfolding encode_faces
  faces-accepted =
      let n : length (list_bits f fs) ≡ bits_of f (faces_in f s) = length_list f fs ∙ ap (bits_of f) (sym faces-read_back) in
      shape_is f v s (record {
        edition = at_edition;
        least = omega (arith, at_count, g.least);
        most = omega (arith, at_count, g.most);
        faces = rw faces-read_back (sendable_fits f v fs g);
        sized = length-filled (length (list_bits f fs)) (list_bits f fs) ∙ ap bytes_for n;
        filled = ap (λ (m : ℕ). fill_after m s) (sym n) ∙ fill_filled (length (list_bits f fs)) (list_bits f fs) (under_list f fs) refl;
      })

  pub rows_returned : faces_of f v s ≡ record
      { answer = Fine; count = length fs; rows = padded (flat_map row fs) (row_bytes * most_faces) 0 }
  unfolding faces_of
  rows_returned =
      rw faces-accepted
      (λ i. record
      { answer = Fine; count = at_count i; rows = padded (flat_map row (faces-read_back i)) (row_bytes * most_faces) 0 })

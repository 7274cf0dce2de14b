-- A face list that passes 20 is the one that its faces are written to.
use mathlib.Core.Path.{◌≡◌, sym, ap, ap₂, ◌∙◌}
use mathlib.Core.List.{List, ◌++◌, flat_map}
use Prim.Native.Nat.{ℕ, ◌≤◌, ◌+◌, ◌*◌, ◌^◌}
use native.Mathlib.Nat.{le_trans, le_of_eq}
use native.Mathlib.Omega.{arith}
use lib.ListN.{length, take, drop, length-drop}
use lib.Seq.{take-add}
use Rattle.pack.specs.Bits.{bits, run, Under}
use Rattle.pack.proofs.Laws.{length_run, under-run, under_drop}
use Rattle.pack.proofs.Trip.{bits_field}
use Rattle.paper.specs.Format.{filled}
use Rattle.paper.specs.FaceList.{face_bits, list_bits, encode_faces, count_in, faces_in, bits_of}
use Rattle.paper.specs.Loops.{Loop}
use Rattle.paper.specs.declared.Format.{Format}
use Rattle.faces_laws.proofs.Shape.{Shaped}
use Rattle.faces_laws.proofs.FaceList.{length_in}
use Rattle.faces_laws.proofs.Packed.{length_list}
use Rattle.means_sheets.specs.FaceLists.{Sendable}
use Rattle.means_sheets.proofs.Filled.{bytes_hold, filled-again}
use Rattle.means_sheets.proofs.FaceLists.Packed.{bits_are, bits_back}
use Rattle.means_sheets.proofs.FaceLists.Shape.{sendable_is}

module _ (f : Format) (v : ℕ) (s : List ℕ) (g : Shaped f v s) where
  abbrev fs : List Loop
  fs = faces_in f s

  abbrev all : List ℕ
  all = run 8 s

  count_is : length fs ≡ count_in f s
  count_is = length_in f s

  room : 4 + f.face_count_bits + length (flat_map (face_bits f) fs) ≤ length s * 8
  room =
      le_trans (le_of_eq (sym (bits_are f fs))) (le_trans (bytes_hold (bits_of f fs)) (le_of_eq (ap (λ (n : ℕ). n * 8) (sym g.sized))))

  at_head : bits 4 f.edition ++ bits f.face_count_bits (length fs) ≡ take (4 + f.face_count_bits) all
  at_head =
      ap₂ (λ (x y : List ℕ). x ++ y)
      (ap (bits 4) (sym g.edition) ∙ bits_field s 0 4 (omega (arith, room)))
      (ap (bits f.face_count_bits) count_is ∙ bits_field s 4 f.face_count_bits (omega (arith, room)))
      ∙ sym (take-add 4 f.face_count_bits all)

  at-faces : flat_map (face_bits f) fs ≡ take (length (flat_map (face_bits f) fs)) (drop (4 + f.face_count_bits) all)
  unfolding faces_in
  at-faces =
      bits_back f (count_in f s) (drop (4 + f.face_count_bits) all) (under_drop 2 (4 + f.face_count_bits) all (under-run 8 s))
      (omega (arith, room, length-drop (4 + f.face_count_bits) all, length_run 8 s))

  at_list : list_bits f fs ≡ take (bits_of f fs) all
  unfolding list_bits
  at_list =
      ap₂ (λ (x y : List ℕ). x ++ y) at_head at-faces
      ∙ sym (take-add (4 + f.face_count_bits) (length (flat_map (face_bits f) fs)) all)
      ∙ ap (λ (n : ℕ). take n all) (sym (bits_are f fs))

  pub written_again : Under (2 ^ 8) s → encode_faces f fs ≡ s
  unfolding encode_faces
  written_again u =
      ap (λ (n : ℕ). filled n (list_bits f fs)) (length_list f fs)
      ∙ filled-again (bits_of f fs) (list_bits f fs) s u g.sized g.filled at_list

  pub can_be_sent : Sendable f v fs
  can_be_sent = sendable_is f v fs (omega (arith, count_is, g.least)) (omega (arith, count_is, g.most)) g.faces

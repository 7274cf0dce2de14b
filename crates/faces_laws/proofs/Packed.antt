-- The bits of faces and of a face list: how many there are, and that they are bits.
use mathlib.Core.Path.{◌≡◌, refl, ap, ap₂, ◌∙◌}
use mathlib.Core.List.{List, [], ◌∷◌, ◌++◌, flat_map}
use Prim.Native.Nat.{ℕ, ◌+◌, ◌*◌}
use native.Mathlib.Nat.{mul_comm}
use native.Mathlib.Omega.{arith}
use lib.ListN.{length, length-append}
use Rattle.pack.specs.Bits.{bits, run, Under}
use Rattle.pack.proofs.Laws.{length_bits, length_run, under-bits, under-run, under-append}
use Rattle.paper.specs.Format.{edition_bits, corner_bits}
use Rattle.paper.specs.Loops.{Loop}
use Rattle.paper.specs.FaceList.{face_bits, list_bits, span, bits_of}
use Rattle.paper.specs.declared.Format.{Format}

-- two stretches of bits one behind the other
both : (x y : List ℕ) {n m : ℕ} → length x ≡ n → length y ≡ m → length (x ++ y) ≡ n + m
both x y p q = length-append x y ∙ ap₂ (λ (i j : ℕ). i + j) p q

module _ (f : Format) where
  -- the corner count of a face, and its corners
  abbrev counted : Loop → List ℕ
  counted l = bits corner_bits (length l)

  abbrev corners : Loop → List ℕ
  corners l = run f.vertex_number_bits l

  pub length_face : (l : Loop) → length (face_bits f l) ≡ corner_bits + f.vertex_number_bits * length l
  unfolding face_bits
  length_face l =
      both (counted l) (corners l) (length_bits corner_bits (length l))
      (length_run f.vertex_number_bits l ∙ mul_comm (length l) f.vertex_number_bits)

  pub length_bits_of : (fs : List Loop) → length (flat_map (face_bits f) fs) ≡ span f fs
  unfolding flat_map span
  length_bits_of [] = refl
  length_bits_of (l ∷ fs) = both (face_bits f l) (flat_map (face_bits f) fs) (length_face l) (length_bits_of fs)

  under-face : (l : Loop) → Under 2 (face_bits f l)
  unfolding face_bits
  under-face l =
      under-append 2 (counted l) (corners l) (under-bits corner_bits (length l)) (under-run f.vertex_number_bits l)

  pub under-bits_of : (fs : List Loop) → Under 2 (flat_map (face_bits f) fs)
  unfolding flat_map
  under-bits_of [] i = omega arith
  under-bits_of (l ∷ fs) i = under-append 2 (face_bits f l) (flat_map (face_bits f) fs) (under-face l) (under-bits_of fs) i

module _ (f : Format) (fs : List Loop) where
  -- the edition, the face count, and both
  abbrev edition : List ℕ
  edition = bits edition_bits f.edition

  abbrev count : List ℕ
  count = bits f.face_count_bits (length fs)

  abbrev pub head : List ℕ
  head = edition ++ count

  pub length_head : length head ≡ edition_bits + f.face_count_bits
  length_head = both edition count (length_bits edition_bits f.edition) (length_bits f.face_count_bits (length fs))

  pub size_is : {b : ℕ} → b ≡ span f fs → edition_bits + f.face_count_bits + b ≡ bits_of f fs
  unfolding bits_of
  size_is e = ap (λ (n : ℕ). edition_bits + f.face_count_bits + n) e

  pub length_list : length (list_bits f fs) ≡ bits_of f fs
  unfolding list_bits bits_of
  length_list = both head (flat_map (face_bits f) fs) length_head (length_bits_of f fs)

  under-head : Under 2 head
  under-head = under-append 2 edition count (under-bits edition_bits f.edition) (under-bits f.face_count_bits (length fs))

  pub under_list : Under 2 (list_bits f fs)
  unfolding list_bits
  under_list = under-append 2 head (flat_map (face_bits f) fs) under-head (under-bits_of f fs)

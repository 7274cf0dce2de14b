-- Faces in bits, over the layout: what was packed is read again, and what was read packs to the same bits.
use mathlib.Core.Path.{◌≡◌, refl, sym, ap, ap₂, ◌∙◌}
use mathlib.Core.List.{List, [], ◌∷◌, ◌++◌, append_assoc, flat_map}
use Prim.Native.Nat.{ℕ, zero, suc, ◌≤◌, ◌<◌, ◌+◌, ◌*◌, ◌^◌}
use native.Mathlib.Nat.{mul_comm, mod-eq_of_lt}
use native.Mathlib.Omega.{arith}
use lib.ListN.{length, take, drop, length-append, length-drop}
use lib.Seq.{take_at, drop_at, take-add, length-take-le}
use Rattle.pack.specs.Bits.{bits, val, run, cut, Under}
use Rattle.pack.proofs.Laws.{length_bits, length_cut, val-bits, bits-val, cut-run, run-cut, under_take, under_drop}
use Rattle.paper.specs.FaceList.{face_bits, faces_at, bits_of}
use Rattle.paper.specs.Loops.{Loop}
use Rattle.paper.specs.declared.Format.{Format}
use Rattle.faces_laws.proofs.Packed.{length_face, length_bits_of}

module _ (f : Format) where
  -- the bits before the fill
  pub bits_are : (fs : List Loop) → bits_of f fs ≡ 4 + f.face_count_bits + length (flat_map (face_bits f) fs)
  unfolding bits_of
  bits_are fs = ap (λ (n : ℕ). 4 + f.face_count_bits + n) (sym (length_bits_of f fs))

  -- ---- packed and read

  -- faces whose corner counts and corners fit their fields
  abbrev pub Fit : List Loop → Type 0
  Fit [] = Unit {0}
  Fit (l ∷ fs) = (length l < 2 ^ 4) × Under (2 ^ f.vertex_number_bits) l × Fit fs

  module _ (l : Loop) (rest : List ℕ) where
    apart : face_bits f l ++ rest ≡ bits 4 (length l) ++ (run f.vertex_number_bits l ++ rest)
    unfolding face_bits
    apart = append_assoc (bits 4 (length l)) (run f.vertex_number_bits l) rest

    count_back : length l < 2 ^ 4 → val (take 4 (face_bits f l ++ rest)) ≡ length l
    count_back h =
        ap (λ (t : List ℕ). val (take 4 t)) apart
        ∙ ap val (take_at (bits 4 (length l)) (run f.vertex_number_bits l ++ rest) 4 (length_bits 4 (length l)))
        ∙ val-bits 4 (length l) ∙ mod-eq_of_lt h

    corners_back : Under (2 ^ f.vertex_number_bits) l → cut f.vertex_number_bits (length l) (drop 4 (face_bits f l ++ rest)) ≡ l
    corners_back u =
        ap (λ (t : List ℕ). cut f.vertex_number_bits (length l) (drop 4 t)) apart
        ∙ ap (cut f.vertex_number_bits (length l))
        (drop_at (bits 4 (length l)) (run f.vertex_number_bits l ++ rest) 4 (length_bits 4 (length l)))
        ∙ cut-run f.vertex_number_bits l rest u

  pub faces_back : (fs : List Loop) (rest : List ℕ) → Fit fs → faces_at f (length fs) (flat_map (face_bits f) fs ++ rest) ≡ fs
  unfolding faces_at flat_map
  faces_back [] rest h = refl
  faces_back (l ∷ fs) rest h =
      let r : List ℕ = flat_map (face_bits f) fs ++ rest in
      ap (faces_at f (suc (length fs))) (append_assoc (face_bits f l) (flat_map (face_bits f) fs) rest)
      ∙ ap
      (λ (k : ℕ). cut f.vertex_number_bits k (drop 4 (face_bits f l ++ r)) ∷ faces_at f (length fs)
      (drop (4 + f.vertex_number_bits * k) (face_bits f l ++ r))) (count_back l r h.0)
      ∙ ap₂ (λ (x : Loop) (t : List Loop). x ∷ t) (corners_back l r h.1)
      (ap (faces_at f (length fs)) (drop_at (face_bits f l) r (4 + f.vertex_number_bits * length l) (length_face f l))
      ∙ faces_back fs rest h.2)

  -- ---- read and packed

  -- one face, of k corners
  face_back : (bs : List ℕ) (k : ℕ) → Under 2 bs → k ≡ val (take 4 bs) → 4 + f.vertex_number_bits * k ≤ length bs
      → face_bits f (cut f.vertex_number_bits k (drop 4 bs)) ≡ take (4 + f.vertex_number_bits * k) bs
  unfolding face_bits
  face_back bs k u e h =
      let m : k * f.vertex_number_bits ≡ f.vertex_number_bits * k = mul_comm k f.vertex_number_bits in
      let c : bits 4 (length (cut f.vertex_number_bits k (drop 4 bs))) ≡ take 4 bs =
      ap (bits 4) (length_cut f.vertex_number_bits k (drop 4 bs) ∙ e)
      ∙ ap (λ (w : ℕ). bits w (val (take 4 bs))) (sym (length-take-le 4 bs (omega arith)))
      ∙ bits-val (take 4 bs) (under_take 2 4 bs (omega arith) u) in
      let r : run f.vertex_number_bits (cut f.vertex_number_bits k (drop 4 bs)) ≡ take (f.vertex_number_bits * k)
      (drop 4 bs) =
      run-cut f.vertex_number_bits k (drop 4 bs) (under_drop 2 4 bs u) (omega (arith, length-drop 4 bs, m))
      ∙ ap (λ (n : ℕ). take n (drop 4 bs)) m in
      ap₂ (λ (x y : List ℕ). x ++ y) c r ∙ sym (take-add 4 (f.vertex_number_bits * k) bs)

  pub bits_back : (n : ℕ) (bs : List ℕ) → Under 2 bs → length (flat_map (face_bits f) (faces_at f n bs)) ≤ length bs
      → flat_map (face_bits f) (faces_at f n bs) ≡ take (length (flat_map (face_bits f) (faces_at f n bs))) bs
  unfolding faces_at flat_map
  bits_back zero bs u h = refl
  bits_back (suc n) bs u h =
      let k : ℕ = val (take 4 bs) in
      let l : Loop = cut f.vertex_number_bits k (drop 4 bs) in
      let fs : List Loop = faces_at f n (drop (4 + f.vertex_number_bits * k) bs) in
      let m : length (face_bits f l) ≡ 4 + f.vertex_number_bits * k = length_face f l
      ∙ ap (λ (j : ℕ). 4 + f.vertex_number_bits * j) (length_cut f.vertex_number_bits k (drop 4 bs)) in
      let e : length (face_bits f l ++ flat_map (face_bits f) fs) ≡ 4 + f.vertex_number_bits * k + length (flat_map (face_bits f) fs) =
      length-append (face_bits f l) (flat_map (face_bits f) fs) ∙ ap (λ (j : ℕ). j + length (flat_map (face_bits f) fs)) m in
      ap₂ (λ (x y : List ℕ). x ++ y) (face_back bs k u refl (omega (arith, e)))
      (bits_back n (drop (4 + f.vertex_number_bits * k) bs) (under_drop 2 (4 + f.vertex_number_bits * k) bs u)
      (omega (arith, e, length-drop (4 + f.vertex_number_bits * k) bs)))
      ∙ sym (take-add (4 + f.vertex_number_bits * k) (length (flat_map (face_bits f) fs)) bs) ∙ ap (λ (j : ℕ). take j bs) (sym e)

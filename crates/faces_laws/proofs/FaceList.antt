-- The faces of a packed list, by the bit at which each starts.
use mathlib.Core.Path.{◌≡◌, refl, sym, ap, ◌∙◌}
use mathlib.Core.List.{List, [], ◌∷◌}
use Prim.Native.Nat.{ℕ, zero, suc, ◌+◌, ◌*◌, ◌≤◌, ◌<◌}
use native.Mathlib.Nat.{not-suc-le-zero, le_of_suc-le-suc}
use native.Mathlib.Omega.{arith}
use lib.ListN.{length, get_or, take, drop}
use lib.Seq.{drop-drop, take_all}
use Rattle.pack.specs.Bits.{val, run, cut, field_at, fields_at}
use Rattle.pack.proofs.Laws.{length_cut}
use Rattle.paper.specs.Format.{edition_bits, corner_bits}
use Rattle.paper.specs.Loops.{Loop}
use Rattle.paper.specs.FaceList.{faces_at, count_in, faces_in, span, bits_of}
use Rattle.paper.specs.declared.Format.{Format}

module _ (f : Format) where
  -- the bits of a face of c corners; the first face of these bits, and the bits behind it
  abbrev face_span : ℕ → ℕ
  face_span c = corner_bits + f.vertex_number_bits * c

  abbrev first_face : List ℕ → Loop
  first_face bs = cut f.vertex_number_bits (val (take corner_bits bs)) (drop corner_bits bs)

  abbrev behind : List ℕ → List ℕ
  behind bs = drop (face_span (val (take corner_bits bs))) bs

  pub length_faces : (n : ℕ) (bs : List ℕ) → length (faces_at f n bs) ≡ n
  unfolding faces_at
  length_faces zero bs = refl
  length_faces (suc n) bs = ap suc (length_faces n (behind bs))

  -- face k begins behind the faces before it
  faces-at : (n : ℕ) (bs : List ℕ) (k : ℕ) → k < n
      → get_or (faces_at f n bs) k [] ≡ first_face (drop (span f (take k (faces_at f n bs))) bs)
  unfolding faces_at span
  faces-at zero bs k h = absurd (not-suc-le-zero h)
  faces-at (suc n) bs zero h = refl
  faces-at (suc n) bs (suc k) h =
      let c = val (take corner_bits bs) in
      let m = span f (take k (faces_at f n (behind bs))) in
      let length_is = length_cut f.vertex_number_bits c (drop corner_bits bs) in
      let e : drop m (behind bs) ≡ drop (face_span (length (first_face bs)) + m) bs =
      drop-drop m (face_span c) bs ∙ ap (λ (i : ℕ). drop (face_span i + m) bs) (sym length_is) in
      faces-at n (behind bs) k (le_of_suc-le-suc h) ∙ ap first_face e

  -- one face more; at most all of them
  pub span_more : (fs : List Loop) (k : ℕ) → k < length fs
      → span f (take (suc k) fs) ≡ span f (take k fs) + face_span (length (get_or fs k []))
  unfolding span
  span_more [] k h = absurd (not-suc-le-zero h)
  span_more (l ∷ fs) zero h = omega arith
  span_more (l ∷ fs) (suc k) h = omega (arith, span_more fs k (le_of_suc-le-suc h))

  pub span_least : (fs : List Loop) (k : ℕ) → span f (take k fs) ≤ span f fs
  unfolding span
  span_least [] zero = omega arith
  span_least [] (suc k) = omega arith
  span_least (l ∷ fs) zero = omega arith
  span_least (l ∷ fs) (suc k) = omega (arith, span_least fs k)

  module _ (s : List ℕ) where
    -- the bits of the list behind its head
    abbrev body : List ℕ
    body = drop (edition_bits + f.face_count_bits) (run 8 s)

    -- the bit at which face k starts, and its corner count
    abbrev pub start : ℕ → ℕ
    start k = bits_of f (take k (faces_in f s))

    abbrev corners : ℕ → ℕ
    corners k = length (get_or (faces_in f s) k [])

    pub length_in : length (faces_in f s) ≡ count_in f s
    unfolding faces_in
    length_in = length_faces (count_in f s) body

    pub face_is : (k : ℕ) → k < count_in f s
        → get_or (faces_in f s) k [] ≡ fields_at s (start k + corner_bits) f.vertex_number_bits (field_at s (start k) corner_bits)
    unfolding faces_in bits_of fields_at field_at
    face_is k h =
        let m = span f (take k (faces_at f (count_in f s) body)) in
        let p = edition_bits + f.face_count_bits + m in
        let e : drop m body ≡ drop (edition_bits + f.face_count_bits + m) (run 8 s) =
        drop-drop m (edition_bits + f.face_count_bits) (run 8 s) in
        let count = val (take corner_bits (drop p (run 8 s))) in
        faces-at (count_in f s) body k h
        ∙ ap first_face e
        ∙ ap (cut f.vertex_number_bits count) (drop-drop corner_bits p (run 8 s))

    pub start_more : (k : ℕ) → k < count_in f s → start (k + 1) ≡ start k + corner_bits + f.vertex_number_bits * corners k
    unfolding bits_of
    start_more k h =
        let e : k + 1 ≡ suc k = omega arith in
        rw e (omega (arith, span_more (faces_in f s) k (rw length_in h)))

    pub start_most : (k : ℕ) → k < count_in f s
        → start k + corner_bits + f.vertex_number_bits * corners k ≤ bits_of f (faces_in f s)
    unfolding bits_of
    start_most k h = omega (arith, span_more (faces_in f s) k (rw length_in h), span_least (faces_in f s) (suc k))

    pub start-all : (k : ℕ) → count_in f s ≤ k → take k (faces_in f s) ≡ faces_in f s
    start-all k h = take_all k (faces_in f s) (rw length_in h)

-- What faces weigh: their count and their bits where all fit, candidate by candidate.
use mathlib.Core.Path.{◌≡◌, refl, sym, ap, ap₂, ◌∙◌}
use mathlib.Core.Bool.{Bool, true, false, ◌&&◌, cond}
use mathlib.Core.Option.{Option, none, some}
use mathlib.Core.List.{List, [], ◌∷◌}
use Prim.Native.Nat.{ℕ, suc, ◌+◌, ◌*◌, ◌≤◌, ◌<◌}
use native.Mathlib.Nat.{add_assoc, zero-add, add-zero}
use native.Mathlib.Omega.{arith}
use lib.ListN.{length, length-map}
use Rattle.lists.specs.Lists.{all, keep, filter, upto}
use Rattle.lists.proofs.Truth.{and_left, and_right}
use Rattle.lists.proofs.Places.{upto_length}
use Rattle.lists.proofs.Kept.{kept_from, kept_start, kept_next, kept_end}
use Rattle.sets.specs.Word.{dig}
use Rattle.paper.specs.Numbers.{most_candidates}
use Rattle.paper.specs.Format.{corner_bits}
use Rattle.paper.specs.Record.{turned_in}
use Rattle.paper.specs.Loops.{Loop}
use Rattle.paper.specs.FaceList.{span, row_at, solid_faces}
use Rattle.paper.specs.declared.Format.{Format}
use Rattle.faces_reader.specs.Face.{Brief}
use Rattle.faces_writer.specs.Send.{Weight, of, marked, face_of, face_alone, fits, corners_of, weight, Weighed}
use Rattle.std.specs.Prelude.{Some, None}
use Rattle.faces_reader.proofs.Brief.{corners_small}
use Rattle.faces_laws.proofs.Shape.{face_yes}
use Rattle.faces_writer.proofs.Fits.{way_length, way-fits}

-- ---- two weights one behind the other

abbrev pub plus : Weight → Weight → Weight
plus None y = None
plus (Some x) None = None
plus (Some x) (Some y) = of (x.faces + y.faces) (x.bits + y.bits)

same : {n m a b : ℕ} → n ≡ m → a ≡ b → of n a ≡ of m b
same p q = ap₂ (λ (x y : ℕ). of x y) p q

plus_none : (w : Weight) → w ≡ plus (of 0 0) w
plus_none None = refl
plus_none (Some x) = same (sym (zero-add x.faces)) (sym (zero-add x.bits))

plus-plus : (n a m b : ℕ) (w : Weight) → plus (of n a) (plus (of m b) w) ≡ plus (of (n + m) (a + b)) w
plus-plus n a m b None = refl
plus-plus n a m b (Some x) = same (sym (add_assoc n m x.faces)) (sym (add_assoc a b x.bits))

-- what a weight has, 0 where there is none
faces_in : Weight → ℕ
faces_in None = 0
faces_in (Some x) = x.faces

bits_in : Weight → ℕ
bits_in None = 0
bits_in (Some x) = x.bits

-- ---- a solid has at most 64 faces

length_keep : {A : Type 0} (b : Bool) (x : A) (xs : List A) → length (keep b x xs) ≤ suc (length xs)
unfolding keep
length_keep true x xs = omega arith
length_keep false x xs = omega arith

length-filter : (p : ℕ → Bool) (xs : List ℕ) → length (filter p xs) ≤ length xs
unfolding filter
length-filter p [] = omega arith
length-filter p (x ∷ xs) = omega (arith, length_keep (p x) x (filter p xs), length-filter p xs)

faces_few : (rows ws : List ℕ) → length (solid_faces rows ws) ≤ most_candidates
unfolding solid_faces
faces_few rows ws =
    let ks = filter (marked ws) (upto most_candidates) in
    omega (arith, length-map ks (face_of rows ws), length-filter (marked ws) (upto most_candidates), upto_length most_candidates)

module _ (f : Format) where
  -- the bits of a face of c corners
  abbrev pub face_span : ℕ → ℕ
  face_span c = corner_bits + f.vertex_number_bits * c

  -- ---- the weight of a list

  weight-none : weight f [] ≡ of 0 0
  unfolding weight all span
  weight-none = refl

  weight-keep : (b : Bool) (l : Loop) (fs : List Loop) → weight f (keep b l fs) ≡ plus (weight f (keep b l [])) (weight f fs)
  unfolding weight all span keep
  weight-keep true l fs = go (fits f l) (all (fits f) fs)
    where
      go : (x y : Bool) → cond (x && y) (of (suc (length fs)) (face_span (length l) + span f fs)) None
          ≡ plus (cond (x && true) (of 1 (face_span (length l) + 0)) None) (cond y (of (length fs) (span f fs)) None)
      go true true = same (omega arith) (omega arith)
      go true false = refl
      go false y = refl
  weight-keep false l fs = plus_none (cond (all (fits f) fs) (of (length fs) (span f fs)) None)

  pub weighed : (fs : List Loop) {n b : ℕ} → of n b ≡ weight f fs → Weighed f fs n b
  unfolding weight faces_in bits_in
  weighed fs {n} {b} e = go (all (fits f) fs) refl e
    where
      go : (x : Bool) → all (fits f) fs ≡ x → of n b ≡ cond x (of (length fs) (span f fs)) None → Weighed f fs n b
      go true t q = record { fit = t; count_is = ap faces_in q; span_is = ap bits_in q }
      go false t q = let z : ◌≡◌ {A = ℕ} 0 1 = cc in absurd (omega arith)

  pub misfit : (fs : List Loop) → None ≡ weight f fs → all (fits f) fs ≡ false
  unfolding weight
  misfit fs e = go (all (fits f) fs) refl e
    where
      go : (x : Bool) → all (fits f) fs ≡ x → None ≡ cond x (of (length fs) (span f fs)) None → all (fits f) fs ≡ false
      go true t q = let z : ◌≡◌ {A = ℕ} 0 1 = cc in absurd (omega arith)
      go false t q = t

  -- faces that fit are small
  span_small : Brief f → (fs : List Loop) → all (fits f) fs ≡ true → span f fs ≤ 100 * length fs
  unfolding all span
  span_small g [] h = omega arith
  span_small g (l ∷ fs) h =
      let a = and_left (fits f l) (all (fits f) fs) h in
      let b = and_right (fits f l) (all (fits f) fs) h in
      let c = (face_yes f f.most_vertices l a).1 in
      omega (arith, span_small g fs b, corners_small g.slender.vertex_number_narrow c)

  module _ (rows ws : List ℕ) where
    pub solid_small : Brief f → all (fits f) (solid_faces rows ws) ≡ true → span f (solid_faces rows ws) ≤ 6400
    solid_small g h = omega (arith, span_small g (solid_faces rows ws) h, faces_few rows ws)

    -- ---- one candidate: not taken, no face, a face

    abbrev pub One : ℕ → Weight → Type 0
    One k w = w ≡ weight f (face_alone rows ws k)

    pub weigh_left : (k : ℕ) → marked ws k ≡ false → One k (of 0 0)
    unfolding face_alone keep
    weigh_left k e = rw e (sym weight-none)

    -- a taken candidate, by the corner count that is found
    abbrev found_extent : Option ℕ → Weight
    found_extent none = None
    found_extent (some c) = of 1 (face_span c)

    weigh_one : (k : ℕ) → marked ws k ≡ true → found_extent (corners_of f (row_at rows k)) ≡ weight f (face_alone rows ws k)
    unfolding face_alone keep weight all span corners_of
    weigh_one k e =
        let l = row_at rows k in
        let b = dig (turned_in ws) k in
        rw (e, way-fits f f.most_vertices b l, way_length b l) (go (fits f l) (length l))
      where
        go : (b : Bool) (n : ℕ) → found_extent (cond b (some n) none) ≡ cond (b && true) (of 1 (face_span n + 0)) None
        go true n = same refl (omega arith)
        go false n = refl

    pub weigh_row : (k : ℕ) {o : Option ℕ} → marked ws k ≡ true → o ≡ corners_of f (row_at rows k) → One k (found_extent o)
    weigh_row k e q = ap found_extent q ∙ weigh_one k e

    -- one candidate weighs little
    pub one_small : Brief f → (k : ℕ) {m b : ℕ} → One k (of m b) → (m ≤ 1) × (b ≤ 100)
    unfolding face_alone
    one_small g k {m} {b} o =
        let fs = keep (marked ws k) (face_of rows ws k) [] in
        let w = weighed fs o in
        let c : length fs ≤ 1 = length_keep (marked ws k) (face_of rows ws k) [] in
        let d : span f fs ≤ 100 * length fs = span_small g fs w.fit in
        (omega (arith, w.count_is), omega (arith, w.span_is))

    -- ---- the faces from candidate k on

    unfoldable pub faces_left : ℕ → List Loop
    faces_left k = kept_from (face_of rows ws) (marked ws) most_candidates k

    pub faces-start : solid_faces rows ws ≡ faces_left 0
    unfolding solid_faces faces_left
    faces-start = kept_start (face_of rows ws) (marked ws) most_candidates

    pub faces-next : (k : ℕ) → k < most_candidates → faces_left k ≡ keep (marked ws k) (face_of rows ws k) (faces_left (k + 1))
    unfolding faces_left
    faces-next k h = kept_next (face_of rows ws) (marked ws) most_candidates k h

    pub faces-end : (k : ℕ) → most_candidates ≤ k → faces_left k ≡ []
    unfolding faces_left
    faces-end k h = kept_end (face_of rows ws) (marked ws) most_candidates k h

    -- ---- what is weighed and what is left give the whole

    abbrev Passed : ℕ → ℕ → ℕ → Type 0
    Passed k n b = weight f (solid_faces rows ws) ≡ plus (of n b) (weight f (faces_left k))

    -- candidate k is next, and those before it are n faces of b bits
    pub record Weighing (k n b : ℕ) : Type 0 where
      pub reached : k ≤ most_candidates
      pub count_small : n ≤ k
      pub bits_small : b ≤ 100 * k
      pub passed : Passed k n b

    pub weigh_start : Weighing 0 0 0
    weigh_start = record {
      reached = omega arith;
      count_small = omega arith;
      bits_small = omega arith;
      passed = ap (weight f) faces-start ∙ plus_none (weight f (faces_left 0));
    }

    module _ (k n b : ℕ) (h : k < most_candidates) (r : Weighing k n b) where
      abbrev rest : Weight
      rest = weight f (faces_left (k + 1))

      -- the faces left are those of candidate k and the rest
      split : {w : Weight} → One k w → weight f (solid_faces rows ws) ≡ plus (of n b) (plus w rest)
      unfolding face_alone
      split {w} o =
          r.passed
          ∙ ap (plus (of n b)) (ap (weight f) (faces-next k h))
          ∙ ap (plus (of n b)) (weight-keep (marked ws k) (face_of rows ws k) (faces_left (k + 1)))
          ∙ ap (λ (x : Weight). plus (of n b) (plus x rest)) (sym o)

      pub weigh_next : Brief f → {m c : ℕ} → One k (of m c) → Weighing (k + 1) (n + m) (b + c)
      weigh_next g {m} {c} o =
          let s = one_small g k o in
          record {
            reached = omega arith;
            count_small = omega (arith, s, r.count_small);
            bits_small = omega (arith, s, r.bits_small);
            passed = split o ∙ plus-plus n b m c rest;
          }

      pub weigh_stop : One k None → None ≡ weight f (solid_faces rows ws)
      weigh_stop o = sym (split o)

    pub weigh_end : (k n b : ℕ) → most_candidates ≤ k → Weighing k n b → of n b ≡ weight f (solid_faces rows ws)
    weigh_end k n b h r =
        let none_left = ap (weight f) (faces-end k h) ∙ weight-none in
        sym (r.passed ∙ ap (plus (of n b)) none_left ∙ same (add-zero n) (add-zero b))

-- The code's search for a face among candidates: two loops corner by corner, and the first of the rows that is the face. What is left
-- to look at gives the whole answer.
use mathlib.Core.Path.{◌≡◌, sym, ap, ◌∙◌}
use mathlib.Core.Bool.{Bool, true, false, ◌&&◌}
use mathlib.Core.List.{List, [], ◌∷◌, map}
use Prim.Native.Nat.{ℕ, suc, ◌+◌, ◌*◌, ◌≤◌, ◌<◌}
use native.Mathlib.Omega.{arith}
use lib.Dec.{eqb}
use lib.ListN.{length, get_or, drop, length-map, drop_of_length-le}
use borrow.Author.Tests.{eq-eqb, ne_eqb}
use Rattle.lists.specs.Lists.{same_list}
use Rattle.lists.proofs.Places.{drop_more, map_at, made_length, made_at}
use Rattle.lists.proofs.Truth.{never_true}
use Rattle.sets.specs.Word.{dig, first}
use Rattle.paper.specs.Numbers.{row_bytes}
use Rattle.paper.specs.Loops.{Loop}
use Rattle.paper.specs.FaceList.{row_at}
use Rattle.paper.specs.Verdict.{normal_form, number_in}
use Rattle.polygon.specs.Rings.{corner_count}
use Rattle.means_check.proofs.Numbers.{same_yes}
use Rattle.verdict_faces.specs.declared.form.Way.{Way}
use Rattle.verdict_faces.specs.Form.{rows_in, Compared}
use Rattle.verdict_faces.proofs.Rows.{row_long, corner-at, other-count}
use Rattle.verdict_faces.proofs.Turns.{face_long, normal_long}

-- ---- two lists of one length, number by number

module _ (a b : List ℕ) where
  abbrev pub SameLeft : ℕ → Type 0
  SameLeft i = same_list a b ≡ same_list (drop i a) (drop i b)

  lengths_differ : (length a ≡ length b → ⊥) → same_list a b ≡ false
  lengths_differ n = never_true (same_list a b) (λ e. n (ap length (same_yes a b e)))

  module _ (l : length a ≡ length b) (i : ℕ) where
    step : i < length a → SameLeft i
        → same_list a b ≡ (eqb (get_or a i 0) (get_or b i 0) && same_list (drop (i + 1) a) (drop (i + 1) b))
    unfolding same_list
    step h e = e ∙ (λ t. same_list (drop_more a i 0 h t) (drop_more b i 0 (omega arith) t))

    same_next : i < length a → SameLeft i → get_or a i 0 ≡ get_or b i 0 → SameLeft (i + 1)
    same_next h e s =
        step h e ∙ ap (λ (t : Bool). t && same_list (drop (i + 1) a) (drop (i + 1) b)) (eq-eqb (get_or a i 0) (get_or b i 0) s)

    same_not : i < length a → SameLeft i → (get_or a i 0 ≡ get_or b i 0 → ⊥) → same_list a b ≡ false
    same_not h e s =
        step h e ∙ ap (λ (t : Bool). t && same_list (drop (i + 1) a) (drop (i + 1) b)) (ne_eqb (get_or a i 0) (get_or b i 0) s)

    same_end : length a ≤ i → SameLeft i → same_list a b ≡ true
    unfolding same_list
    same_end h e = e ∙ (λ t. same_list (drop_of_length-le a h t) (drop_of_length-le b {i = i} (omega arith) t))

-- ---- a face and row k of others

module _ {faces : List ℕ} {r : ℕ} {w : Way} {rows : List ℕ} {k : ℕ} (c : Compared faces r w rows k) {n : ℕ}
    (e : n ≡ corner_count faces r) where
  abbrev form : Loop
  form = normal_form (row_at faces r)

  form_long : length form ≡ n
  form_long = normal_long (row_at faces r) ∙ face_long c.face ∙ sym e

  abbrev pub RowLeft : ℕ → Type 0
  RowLeft = SameLeft form (row_at rows k)

  pub row_other : (corner_count rows k ≡ n → ⊥) → false ≡ same_list form (row_at rows k)
  row_other d =
      sym (lengths_differ form (row_at rows k)
      (λ l. other-count rows k c.there n (omega (arith, c.face.least)) d (sym l ∙ form_long)))

  module _ (s : corner_count rows k ≡ n) where
    few : corner_count rows k ≤ 12
    few = omega (arith, c.face.most)

    long : length form ≡ length (row_at rows k)
    long = form_long ∙ sym (row_long rows k c.there few ∙ s)

    module _ (i : ℕ) (h : i < n) (left : RowLeft i) {x : ℕ} (x_is : x ≡ get_or form i 0) where
      at : get_or rows (row_bytes * k + 1 + i) 0 ≡ get_or (row_at rows k) i 0
      at = corner-at rows k c.there few i (omega arith)

      pub row_differs : (x ≡ get_or rows (row_bytes * k + 1 + i) 0 → ⊥) → false ≡ same_list form (row_at rows k)
      row_differs d = sym (same_not form (row_at rows k) long i (omega (arith, form_long)) left (λ y. d (x_is ∙ y ∙ sym at)))

      pub row_goes_on : x ≡ get_or rows (row_bytes * k + 1 + i) 0 → RowLeft (i + 1)
      row_goes_on d = same_next form (row_at rows k) long i (omega (arith, form_long)) left (sym x_is ∙ d ∙ at)

    pub row_same : (i : ℕ) → n ≤ i → RowLeft i → true ≡ same_list form (row_at rows k)
    row_same i h left = sym (same_end form (row_at rows k) long i (omega (arith, form_long)) left)

-- ---- the first of the rows that is the face

module _ (faces : List ℕ) (r : ℕ) (rows : List ℕ) (n : ℕ) where
  abbrev hits : List Bool
  hits = map (same_list (normal_form (row_at faces r))) (rows_in rows n)

  abbrev pub FirstLeft : ℕ → Type 0
  FirstLeft k = number_in (rows_in rows n) (row_at faces r) ≡ k + first (drop k hits)

  hits_long : length hits ≡ n
  hits_long = length-map (rows_in rows n) (same_list (normal_form (row_at faces r))) ∙ made_length (row_at rows) n

  pub first-start : FirstLeft 0
  unfolding number_in
  first-start = omega arith

  module _ (k : ℕ) (left : FirstLeft k) where
    module _ (h : k < n) {b : Bool} (b_is : b ≡ same_list (normal_form (row_at faces r)) (row_at rows k)) where
      hit_is : dig hits k ≡ b
      hit_is =
          map_at (same_list (normal_form (row_at faces r))) (rows_in rows n) k [] false (omega (arith, made_length (row_at rows) n))
          ∙ ap (same_list (normal_form (row_at faces r))) (made_at (row_at rows) n k [] h) ∙ sym b_is

      pub first_hit : b ≡ true → k ≡ number_in (rows_in rows n) (row_at faces r)
      unfolding first
      first_hit t =
          let z : first (drop k hits) ≡ 0 = ap first (drop_more hits k false (omega (arith, hits_long)))
          ∙ ap (λ (x : Bool). first (x ∷ drop (k + 1) hits)) (hit_is ∙ t) in
          omega (arith, left, z)

      pub first_miss : b ≡ false → FirstLeft (k + 1)
      unfolding first
      first_miss t =
          let z : first (drop k hits) ≡ suc (first (drop (k + 1) hits)) = ap first (drop_more hits k false (omega (arith, hits_long)))
          ∙ ap (λ (x : Bool). first (x ∷ drop (k + 1) hits)) (hit_is ∙ t) in
          omega (arith, left, z)

    pub first-end : k ≡ n → n ≡ number_in (rows_in rows n) (row_at faces r)
    unfolding first
    first-end e =
        let z : first (drop k hits) ≡ 0 = ap first (drop_of_length-le hits {i = k} (omega (arith, hits_long))) in
        omega (arith, left, z)

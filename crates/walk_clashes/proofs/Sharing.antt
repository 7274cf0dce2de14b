-- Rule C of two candidates, by the corners and sides that they share.
use mathlib.Core.Bool.{Bool, true, false, not, ◌&&◌, ◌||◌, and-false, and_assoc}
use mathlib.Core.Path.{◌≡◌, refl, sym, ap, ◌∙◌}
use mathlib.Core.List.{List, [], map}
use Prim.Native.Nat.{ℕ, ◌+◌, ◌≤◌, ◌<◌}
use native.Mathlib.Omega.{arith}
use borrow.Author.Tests.{eq-eqb, ne_eqb, lt-ltb, le-ltb}
use lib.Dec.{eqb, ltb}
use lib.IntN.{ℤ}
use lib.ListN.{length}
use Rattle.lists.specs.Lists.{upto}
use Rattle.lists.proofs.Places.{made_length}
use Rattle.sets.specs.Word.{dig, count, both, less}
use Rattle.sets.specs.Kinds.{Joint, SetAt}
use Rattle.sets.specs.Sets.{Is, size, one_word, wides, Wide}
use Rattle.sets.specs.declared.Set.{Set}
use Rattle.sets.proofs.Digits.{length_less, dig-less}
use Rattle.sets.proofs.Laws.{at-is}
use Rattle.sets.proofs.Sets.{size_is, wides_laws}
use Rattle.paper.specs.Drawing.{Wire}
use Rattle.paper.specs.Loops.{Loop, loop_at, polygon}
use Rattle.paper.specs.Clash.{folds}
use Rattle.paper.specs.declared.Point.{Point}
use Rattle.polygon.specs.Rings.{of_rows, point_of, corner_count, FaceRow}
use Rattle.fast_tables.specs.Hits.{corner_mask, side_mask, share_enough, may_fold, folds_with}
use Rattle.walk_clashes.specs.Faces.{drawing_of}
use Rattle.walk_clashes.specs.Sorted.{Upto}
use Rattle.walk_clashes.specs.Folds.{folds_after, fold_mask, FoldLent, PairLent, PairFolds}
use Rattle.walk_clashes.proofs.Rows.{face-at, corners-at, polygon-at}
use Rattle.walk_clashes.proofs.Sorting.{is_same, dig-made, upto-fail}

-- ---- how many corners are enough

pub few_shared : (m c : ℕ) → m < 2 → false ≡ share_enough m c
unfolding share_enough
few_shared m c h = sym (λ i. le-ltb 2 m (omega (arith, h)) i || (ne_eqb m 2 (λ e. omega (arith, e, h)) i && eqb c 0))

pub two_shared : (m c : ℕ) → m ≡ 2 → {b : Bool} → b ≡ eqb c 0 → b ≡ share_enough m c
unfolding share_enough
two_shared m c e q = q ∙ sym (λ i. le-ltb 2 m (omega (arith, e)) i || (eq-eqb m 2 e i && eqb c 0))

pub more_shared : (m c : ℕ) → 2 < m → true ≡ share_enough m c
unfolding share_enough
more_shared m c h = sym (ap (λ (b : Bool). b || (eqb m 2 && eqb c 0)) (lt-ltb 2 m h))

-- ---- a candidate of several

module _ {xyz : List ℤ} {rows corners sides : List ℕ} {normals : List ℤ} {n : ℕ} (w : FoldLent xyz rows corners sides normals n) where
  abbrev here : ℕ → Loop
  here k = loop_at w.faces.loops k

  abbrev drawing : Wire
  drawing = drawing_of w.faces

  -- with the normal that is read
  pub face-read : (k : ℕ) → k < n → {m : Point} → m ≡ point_of normals k → FaceRow xyz rows k m
  face-read k h e = face-at w.faces k h (e ∙ w.normals_are.each k h)

  -- the tests that rule C comes after, and rule C
  abbrev share : ℕ → ℕ → Bool
  share g j =
      share_enough (count (both (corner_mask drawing (here g)) (corner_mask drawing (here j))))
      (count (both (side_mask drawing (here g)) (side_mask drawing (here j))))

  abbrev fold : ℕ → ℕ → Bool
  fold g j = folds (polygon drawing (here g)) (polygon drawing (here j))

  tests_are : (g j : ℕ) (a b c : Bool) → ltb 3 (length (here g)) ≡ a → ltb 3 (length (here j)) ≡ b → share g j ≡ c
      → folds_after drawing w.faces.loops g j ≡ (ltb g j && (((a && b) && c) && fold g j))
  unfolding folds_after folds_with may_fold
  tests_are g j a b c ea eb ec = λ i. ltb g j && (((ea i && eb i) && ec i) && fold g j)

  -- a triangle folds with none
  three_fold : (g : ℕ) → g < n → corner_count rows g ≤ 3 → (j : ℕ) → folds_after drawing w.faces.loops g j ≡ false
  three_fold g h few j =
      tests_are g j false (ltb 3 (length (here j))) (share g j) (le-ltb 3 (length (here g)) (omega (arith, few, corners-at w.faces g h)))
      refl refl
      ∙ and-false (ltb g j)

  -- ---- those that fold with g and are not known

  abbrev pub Passes : ℕ → List Bool → ℕ → Bool
  Passes g s u = folds_after drawing w.faces.loops g u && not (dig s u)

  module _ (g : ℕ) (s : List Bool) where
    -- no candidate up to g does, and none where g is a triangle
    pub pass-start : {x : Set} → Is x [] → Upto (Passes g s) (g + 1) x
    unfolding folds_after
    pass-start =
        upto-fail (Passes g s) (g + 1)
        (λ u h. ap (λ (b : Bool). (b && folds_with drawing (here g) (here u)) && not (dig s u)) (le-ltb g u (omega (arith, h))))

    pub pass-none : g < n → corner_count rows g ≤ 3 → {x : Set} → Is x [] → Upto (Passes g s) n x
    pass-none h few = upto-fail (Passes g s) n (λ u l. ap (λ (b : Bool). b && not (dig s u)) (three_fold g h few u))

    pub pass_all : {x : Set} → Upto (Passes g s) n x → Is x (less (fold_mask drawing w.faces.loops g) s)
    unfolding fold_mask
    pass_all k =
        is_same (less mask s) k.is
        (omega (arith, length_less mask s, made_length test (length w.faces.loops), w.faces.count, w.faces.most))
        (λ u. k.each u ∙ sym (digit u))
      where
        test : ℕ → Bool
        test = folds_after drawing w.faces.loops g

        mask : List Bool
        mask = map test (upto (length w.faces.loops))

        digit : (u : ℕ) → dig (less mask s) u ≡ (ltb u n && Passes g s u)
        digit u =
            dig-less mask s u ∙ ap (λ (b : Bool). b && not (dig s u)) (dig-made test (length w.faces.loops) u)
            ∙ ap (λ (k : ℕ). (ltb u k && test u) && not (dig s u)) (sym w.faces.count)
            ∙ and_assoc (ltb u n) (test u) (not (dig s u))

-- ---- two of them

module _ {xyz : List ℤ} {rows corners sides : List ℕ} {normals : List ℤ} {g j : ℕ} (w : PairLent xyz rows corners sides normals g j) where
  pub first_low : g < w.n
  first_low = omega (arith, w.after, w.there)

  -- how many corners they have
  abbrev first_long : Bool
  first_long = ltb 3 (length (here w.lent g))

  abbrev last_long : Bool
  last_long = ltb 3 (length (here w.lent j))

  pub three-less : corner_count rows j ≤ 3 → PairFolds w false
  three-less q =
      let few = le-ltb 3 (length (here w.lent j)) (omega (arith, q, corners-at w.lent.faces j w.there)) in
      sym
      (tests_are w.lent g j first_long false (share w.lent g j) refl few refl
      ∙ ap (λ (b : Bool). ltb g j && ((b && share w.lent g j) && fold w.lent g j)) (and-false first_long)
      ∙ and-false (ltb g j))

  -- the corners and the sides of the two, and what they share of each
  module _ {x y shared : Set} (ax : SetAt one_word corners g x) (ay : SetAt one_word corners j y) (js : Joint one_word x y shared both)
      {u v common : Wide} (au : SetAt wides sides g u) (av : SetAt wides sides j v) (jc : Joint wides u v common both) where
    share_is : share_enough (size shared) (wides.size common) ≡ share w.lent g j
    share_is =
        let l = w.lent in
        let c = size_is (js _ _ (at-is ax _ (l.own_are g first_low)) (at-is ay _ (l.own_are j w.there))) in
        let s = wides_laws.size_is (jc _ _ (at-is au _ (l.sides_are g first_low)) (at-is av _ (l.sides_are j w.there))) in
        λ i. share_enough (c i) (s i)

    pub share_less : {b : Bool} → b ≡ share_enough (size shared) (wides.size common) → b ≡ false → PairFolds w false
    share_less e z =
        sym
        (tests_are w.lent g j first_long last_long false refl refl (sym share_is ∙ sym e ∙ z)
        ∙ ap (λ (b : Bool). ltb g j && (b && fold w.lent g j)) (and-false (first_long && last_long))
        ∙ and-false (ltb g j))

    pub folds_are : {b : Bool} → b ≡ share_enough (size shared) (wides.size common) → b ≡ true → 3 < corner_count rows j
        → {r : Bool} → r ≡ of_rows folds xyz rows g j → PairFolds w r
    folds_are e t q s =
        let f = w.lent.faces in
        let a = lt-ltb 3 (length (here w.lent g)) (omega (arith, w.long, corners-at f g first_low)) in
        let b = lt-ltb 3 (length (here w.lent j)) (omega (arith, q, corners-at f j w.there)) in
        s ∙ (λ i. folds (polygon-at f g first_low i) (polygon-at f j w.there i))
        ∙ sym
        (tests_are w.lent g j true true true a b (sym share_is ∙ sym e ∙ t)
        ∙ ap (λ (c : Bool). c && fold w.lent g j) (lt-ltb g j w.after))

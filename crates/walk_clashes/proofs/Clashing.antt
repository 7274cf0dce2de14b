-- Candidates that are marked with all that go through them or fold with them, both ways, have the masks of those that clash.
use mathlib.Core.Path.{◌≡◌, refl, sym, ap, subst, ◌∙◌}
use mathlib.Core.Bool.{Bool, true, false, not, ◌&&◌, ◌||◌}
use mathlib.Core.List.{List, [], map}
use Prim.Native.Nat.{ℕ, ◌≤◌, ◌<◌}
use native.Mathlib.Omega.{arith}
use borrow.Author.Tests.{lt-ltb, le-ltb, ltb-true, ltb-false}
use lib.Dec.{ltb}
use lib.IntN.{ℤ}
use lib.ListN.{length, get_or, get_or-eq_default}
use Rattle.lists.specs.Lists.{upto}
use Rattle.lists.proofs.Places.{made_length, made_at}
use Rattle.sets.specs.Word.{dig, digit, either, less}
use Rattle.sets.specs.Sets.{Is, mask_at, packed_set}
use Rattle.sets.proofs.Digits.{length_either, dig-either, dig-less}
use Rattle.sets.proofs.Numbers.{by_digits}
use Rattle.paper.specs.Loops.{Loop, loop_at}
use Rattle.paper.specs.Solids.{tables_of}
use Rattle.fast_tables.specs.Hits.{folds_with, hits}
use Rattle.fast_tables.specs.Words.{through_mask, inside_mask, hit_mask}
use Rattle.fast_tables.proofs.Drawings.{candidates-clashes}
use Rattle.fast_tables.proofs.Words.{hits_rows}
use Rattle.walk_tables.specs.Words.{Masks}
use Rattle.walk_clashes.specs.Folds.{folds_after, fold_mask, FoldLent}
use Rattle.walk_clashes.specs.Lent.{HitLent}
use Rattle.walk_clashes.specs.Clashes.{ClashLent, wire_lent, all_lent, ClashMasks}
use Rattle.walk_clashes.proofs.Sorting.{dig-made}
use Rattle.walk_clashes.proofs.Gathering.{through_long, inside_long}
use Rattle.walk_clashes.proofs.Ways.{Ways}

module _ {xyz : List ℤ} {rows near number on at corners sides : List ℕ} {normals : List ℤ} {n : ℕ}
    (w : ClashLent xyz rows near number on at corners sides normals n) where
  -- what the rules are asked of
  abbrev pub hit_lent : (g : ℕ) → g < n → HitLent xyz rows near number on at corners normals g
  hit_lent g h = record { n = n; all = w.all; there = h }

  abbrev pub fold_lent : FoldLent xyz rows corners sides normals n
  fold_lent = record { faces = w.all.faces; own_are = w.all.own_are; sides_are = w.sides_are; normals_are = w.all.normals_are }

  -- ---- the marks

  abbrev pub through : ℕ → ℕ → Bool
  through i j = dig (hit_mask (wire_lent w) (all_lent w) i) j

  abbrev pub folding : ℕ → ℕ → Bool
  folding i j = dig (fold_mask (wire_lent w) (all_lent w) i) j

  abbrev pub meets : ℕ → ℕ → Bool
  meets i j = through i j || folding i j

  -- what is marked where some are known already
  pub fresh_is : (g : ℕ) (s : List Bool) (j : ℕ)
      → let hit = hit_mask (wire_lent w) (all_lent w) g in
      dig (either hit (less (fold_mask (wire_lent w) (all_lent w) g) (either s hit))) j ≡ (through g j || (folding g j && not (dig s j || through g j)))
  fresh_is g s j =
      let hit = hit_mask (wire_lent w) (all_lent w) g in
      let fold = fold_mask (wire_lent w) (all_lent w) g in
      dig-either hit (less fold (either s hit)) j
      ∙ ap (λ (b : Bool). dig hit j || b) (dig-less fold (either s hit) j ∙ ap (λ (b : Bool). dig fold j && not b) (dig-either s hit j))

  -- ---- all of them

  abbrev count : ℕ
  count = length (all_lent w)

  folding_is : (i j : ℕ) → folding i j ≡ (ltb j count && folds_after (wire_lent w) (all_lent w) i j)
  unfolding fold_mask
  folding_is i j = dig-made (folds_after (wire_lent w) (all_lent w) i) count j

  -- none past the last is marked
  past : (i j : ℕ) → count ≤ j → meets i j ≡ false
  unfolding hit_mask
  past i j h =
      let l = loop_at (all_lent w) i in
      let a = through_long (wire_lent w) (all_lent w) l in
      let b = inside_long (wire_lent w) (all_lent w) l in
      let c = length_either count (through_mask (wire_lent w) (all_lent w) l) (inside_mask (wire_lent w) (all_lent w) l) a b in
      let p : through i j ≡ false = get_or-eq_default (hit_mask (wire_lent w) (all_lent w) i) false (omega (arith, h, c)) in
      let q : folding i j ≡ false
      = folding_is i j ∙ ap (λ (b : Bool). b && folds_after (wire_lent w) (all_lent w) i j) (le-ltb j count h) in
      λ t. p t || q t

  regroup : (a x b y : Bool) → ((a || x) || (b || y)) ≡ (a || b || (x || y))
  regroup true x b y = refl
  regroup false true true y = refl
  regroup false true false y = refl
  regroup false false true y = refl
  regroup false false false y = refl

  -- two that are marked clash
  meets-hits : (i j : ℕ) → i < count → j < count → (meets i j || meets j i) ≡ hits (wire_lent w) (all_lent w) i j
  unfolding folds_after
  meets-hits i j hi hj =
      let path = w.all.faces.of.path in
      let fold : (u v : ℕ) → v < count → folding u v ≡ (ltb u v && folds_with (wire_lent w) (loop_at (all_lent w) u) (loop_at (all_lent w) v))
      = λ u v h. folding_is u v ∙ ap (λ (b : Bool). b && folds_after (wire_lent w) (all_lent w) u v) (lt-ltb v count h) in
      regroup (through i j) (folding i j) (through j i) (folding j i)
      ∙ (λ t. through i j || through j i || (fold i j hj t || fold j i hi t))
      ∙ sym (hits_rows (wire_lent w) (all_lent w) i j hi hj (path i hi) (path j hj))

  module _ (words : List ℕ) (marked : Ways meets n words) where
    row : (i : ℕ) → i < count → Is (mask_at words i) (map (hits (wire_lent w) (all_lent w) i) (upto count))
    unfolding packed_set
    row i hi =
        record {
          short = omega (arith, made_length (hits (wire_lent w) (all_lent w) i) count, w.all.faces.count, w.all.faces.most);
          words = λ t. record { word = by_digits (get_or words i 0) (map (hits (wire_lent w) (all_lent w) i) (upto count)) each t };
        }
      where
        go : (j : ℕ) (b : Bool) → ltb j count ≡ b
            → ((ltb i count && meets i j) || (ltb j count && meets j i)) ≡ (ltb j count && hits (wire_lent w) (all_lent w) i j)
        go j true p =
            (λ t. (lt-ltb i count hi t && meets i j) || (p t && meets j i)) ∙ meets-hits i j hi (ltb-true j count p)
            ∙ sym (λ t. p t && hits (wire_lent w) (all_lent w) i j)
        go j false p =
            (λ t. (lt-ltb i count hi t && past i j (ltb-false j count p) t) || (p t && meets j i))
            ∙ sym (λ t. p t && hits (wire_lent w) (all_lent w) i j)

        each : (j : ℕ) → digit (get_or words i 0) j ≡ dig (map (hits (wire_lent w) (all_lent w) i) (upto count)) j
        each j =
            marked i j ∙ ap (λ (k : ℕ). (ltb i k && meets i j) || (ltb j k && meets j i)) w.all.faces.count
            ∙ go j (ltb j count) refl ∙ sym (dig-made (hits (wire_lent w) (all_lent w) i) count j)

    table : (tables_of (wire_lent w) (all_lent w)).clashes ≡ map (λ i. map (hits (wire_lent w) (all_lent w) i) (upto count)) (upto count)
    table =
        subst (λ (ls : List Loop). (tables_of (wire_lent w) ls).clashes ≡ map (λ i. map (hits (wire_lent w) ls i) (upto (length ls))) (upto (length ls)))
        (sym w.are) (candidates-clashes (wire_lent w) w.passed.places w.passed.clear)

    pub clashes_are : ClashMasks w words
    clashes_are =
        let masks : ℕ → List Bool = λ i. map (hits (wire_lent w) (all_lent w) i) (upto count) in
        subst (Masks words) (sym table)
        (record {
          few = omega (arith, made_length masks count, w.all.faces.count, w.all.faces.most);
          at = λ i h.
              let hi : i < count = omega (arith, h, made_length masks count) in
              subst (Is (mask_at words i)) (sym (made_at masks count i [] hi)) (row i hi);
        })

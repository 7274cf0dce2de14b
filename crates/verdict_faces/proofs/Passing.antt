-- The two passes over a list of faces: what holds once i of them are passed, at the place that offends, and at the end.
use mathlib.Core.Path.{◌≡◌, refl, sym, ap, subst, ◌∙◌}
use mathlib.Core.Bool.{Bool, true, false, not}
use mathlib.Core.List.{List, [], ◌∷◌, ◌++◌, map}
use mathlib.Core.Option.{some}
use Prim.Native.Nat.{ℕ, ◌+◌, ◌≤◌, ◌<◌}
use native.Mathlib.Numerals.{add-one}
use native.Mathlib.Omega.{arith}
use lib.Dec.{leb}
use lib.ListN.{length, get_or, take, set, length-map, length-set}
use lib.Seq.{take_all, take-suc-set, get_or-take, length-take-le}
use borrow.Author.Tests.{le-leb, lt-leb}
use Rattle.lists.specs.Lists.{filter, member}
use Rattle.lists.proofs.Places.{take_more, map_at, made_length, made_at}
use Rattle.lists.proofs.Search.{LowestLeft, lowest_start, lowest_hit, lowest_miss, lowest-end}
use Rattle.sets.specs.Word.{either, only}
use Rattle.sets.specs.Sets.{wides, Wide}
use Rattle.paper.specs.Numbers.{most_candidates}
use Rattle.paper.specs.Loops.{Loop}
use Rattle.paper.specs.FaceList.{row_at}
use Rattle.paper.specs.Verdict.{onward, number_in, mask_of, not_candidate, face_twice}
use Rattle.means_check.proofs.Numbers.{row-at}
use Rattle.verdict_faces.specs.Form.{rows_in}
use Rattle.verdict_faces.specs.Passes.{numbers_of, turned_faces, AllNumbered, Takes, TakenOnce}
use Rattle.verdict_faces.proofs.Marks.{mark-none, mark_more, made_more, made-less}

-- ---- the numbers of the faces

module _ (faces : List ℕ) (count : ℕ) (rows : List ℕ) (n : ℕ) where
  abbrev fs : List Loop
  fs = rows_in faces count

  abbrev cs : List Loop
  cs = rows_in rows n

  abbrev ks : List ℕ
  ks = numbers_of cs fs

  abbrev unknown : ℕ → Bool
  unknown i = leb n (get_or ks i 0)

  pub record Numbered (numbers₀ numbers : List ℕ) (turned : Wide) (i : ℕ) : Type 0 where
    pub long : length numbers ≡ length numbers₀
    pub left : LowestLeft unknown (length ks) i
    pub put : take i numbers ≡ take i ks
    pub marked : wides.Is turned (turned_faces n cs (take i fs))

  pub numbered_start : {t : Wide} (numbers : List ℕ) → n ≤ most_candidates → wides.Is t [] → Numbered numbers numbers t 0
  unfolding filter
  numbered_start numbers h e = record { long = refl; left = lowest_start unknown (length ks); put = refl; marked = mark-none n h e }

  faces_long : length fs ≡ count
  faces_long = made_length (row_at faces) count

  pub numbers_long : length ks ≡ count
  numbers_long = length-map fs (number_in cs) ∙ faces_long

  module _ {numbers₀ numbers : List ℕ} {t : Wide} {i : ℕ} (s : Numbered numbers₀ numbers t i) where
    module _ (h : i < count) {k : ℕ} (e : k ≡ number_in cs (row_at faces i)) where
      face_is : get_or fs i [] ≡ row_at faces i
      face_is = made_at (row_at faces) count i [] h

      number_is : get_or ks i 0 ≡ k
      number_is = map_at (number_in cs) fs i [] 0 (omega (arith, faces_long)) ∙ ap (number_in cs) face_is ∙ sym e

      -- no candidate
      pub numbered_hit : n ≤ k → not_candidate n ks ≡ some i
      unfolding not_candidate
      numbered_hit m =
          lowest_hit unknown (length ks) i (omega (arith, numbers_long)) s.left (ap (leb n) number_is ∙ le-leb n k m)

      -- one number more
      module _ (m : k < n) (there : i < length numbers) where
        next : LowestLeft unknown (length ks) (i + 1)
        next = lowest_miss unknown (length ks) i (omega (arith, numbers_long)) s.left (ap (leb n) number_is ∙ lt-leb n k m)

        put_more : take (i + 1) (set numbers i k) ≡ take (i + 1) ks
        put_more =
            ap (λ (j : ℕ). take j (set numbers i k)) (add-one i) ∙ take-suc-set numbers i k there
            ∙ (λ z. s.put z ++ sym number_is z ∷ []) ∙ sym (take_more ks i 0 (omega (arith, numbers_long)))

        -- of a face that is run as its normal form
        pub numbered_on : {b : Bool} → b ≡ onward (row_at faces i) → b ≡ true → Numbered numbers₀ (set numbers i k) t (i + 1)
        numbered_on o w = record {
          long = length-set numbers i k ∙ s.long;
          left = next;
          put = put_more;
          marked =
              subst (λ (l : List ℕ). wides.Is t (mask_of n l))
              (made-less (λ f. not (onward f)) (number_in cs) fs i [] (omega (arith, faces_long))
              (ap (λ (f : Loop). not (onward f)) face_is ∙ ap not (sym o ∙ w))) s.marked;
        }

        -- against it
        pub numbered_back : {b : Bool} {u : Wide} → b ≡ onward (row_at faces i) → b ≡ false
            → ((a : List Bool) → wides.Is t a → wides.Is u (either a (only k))) → Numbered numbers₀ (set numbers i k) u (i + 1)
        numbered_back {u = u} o w f = record {
          long = length-set numbers i k ∙ s.long;
          left = next;
          put = put_more;
          marked =
              subst (λ (l : List ℕ). wides.Is u (mask_of n l))
              (ap (λ (j : ℕ). map (number_in cs) (filter (λ f. not (onward f)) (take i fs)) ++ j ∷ [])
              (e ∙ ap (number_in cs) (sym face_is))
              ∙ made_more (λ f. not (onward f)) (number_in cs) fs i [] (omega (arith, faces_long))
              (ap (λ (f : Loop). not (onward f)) face_is ∙ ap not (sym o ∙ w)))
              (mark_more n k m f (map (number_in cs) (filter (λ f. not (onward f)) (take i fs))) s.marked);
        }

    pub numbered_end : i ≡ count → AllNumbered fs cs count n numbers t
    unfolding not_candidate
    numbered_end e = record {
      known = lowest-end unknown (length ks) i (omega (arith, numbers_long)) s.left;
      numbers_are = ap (λ (j : ℕ). take j numbers) (sym e) ∙ s.put ∙ take_all i ks (omega (arith, numbers_long));
      turned_is =
          subst (λ (l : List Loop). wides.Is t (turned_faces n cs l)) (take_all i fs (omega (arith, faces_long))) s.marked;
    }

-- ---- each number once

module _ {numbers : List ℕ} {count : ℕ} (q : Takes numbers count) where
  abbrev taken : List ℕ
  taken = take count numbers

  abbrev twice : ℕ → Bool
  twice i = member (get_or taken i 0) (take i taken)

  -- the numbers are below m
  abbrev Below : ℕ → Type 0
  Below m = (i : ℕ) → i < count → get_or numbers i 0 < m

  pub record Passed (t : Wide) (i : ℕ) : Type 0 where
    pub left : LowestLeft twice (length taken) i
    pub marked : (m : ℕ) → m ≤ most_candidates → Below m → wides.Is t (mask_of m (take i taken))

  pub passed_start : {t : Wide} → wides.Is t [] → Passed t 0
  passed_start e = record { left = lowest_start twice (length taken); marked = λ m h b. mark-none m h e }

  taken_long : length taken ≡ count
  taken_long = length-take-le count numbers (omega (arith, q.few, q.long))

  module _ {t : Wide} {i : ℕ} (s : Passed t i) where
    module _ (h : i < count) {k : ℕ} (e : k ≡ get_or numbers i 0) where
      taken_at : get_or taken i 0 ≡ k
      taken_at = get_or-take count numbers i 0 h ∙ sym e

      -- the set knows whether the number was there
      module _ {b : Bool} (has : (a : List Bool) → wides.Is t a → b ≡ get_or a k false) where
        twice_is : twice i ≡ b
        twice_is =
            ap (λ (j : ℕ). member j (take i taken)) taken_at
            ∙ sym (has (mask_of most_candidates (take i taken)) (s.marked most_candidates (omega arith) q.below)
            ∙ row-at most_candidates (take i taken) k (omega (arith, q.below i h)))

        pub passed_hit : b ≡ true → face_twice taken ≡ some i
        unfolding face_twice
        passed_hit w = lowest_hit twice (length taken) i (omega (arith, taken_long)) s.left (twice_is ∙ w)

        pub passed_more : {u : Wide} → b ≡ false → ((a : List Bool) → wides.Is t a → wides.Is u (either a (only k))) → Passed u (i + 1)
        passed_more {u} w f = record {
          left = lowest_miss twice (length taken) i (omega (arith, taken_long)) s.left (twice_is ∙ w);
          marked = λ m l b.
              subst (λ (x : List ℕ). wides.Is u (mask_of m x))
              (ap (λ (j : ℕ). take i taken ++ j ∷ []) (sym taken_at) ∙ sym (take_more taken i 0 (omega (arith, taken_long))))
              (mark_more m k (omega (arith, b i h)) f (take i taken) (s.marked m l b));
        }

    pub passed-end : i ≡ count → TakenOnce numbers count t
    unfolding face_twice
    passed-end e = record {
      once = lowest-end twice (length taken) i (omega (arith, taken_long)) s.left;
      taken_is = λ m l b. subst (λ (x : List ℕ). wides.Is t (mask_of m x)) (take_all i taken (omega (arith, taken_long))) (s.marked m l b);
    }

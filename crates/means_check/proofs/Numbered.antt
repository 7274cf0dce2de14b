-- A list of faces by the numbers of their candidates: what passes 21 and 22 names a selection with directions, and what names one passes.
use mathlib.Core.Path.{◌≡◌, refl, sym, ap, subst, ◌∙◌}
use mathlib.Core.Bool.{Bool, true, false, not, cond, true≢false}
use mathlib.Core.Logic.{◌⊎◌, inl, inr}
use mathlib.Core.Option.{none}
use mathlib.Core.List.{List, [], map}
use Prim.Native.Nat.{ℕ, ◌<◌}
use native.Mathlib.Omega.{arith}
use native.Mathlib.Decide.{dec_lt}
use lib.Dec.{leb}
use lib.ListN.{length, get_or, take, length-map, get_or-eq_default}
use lib.Seq.{get_or-take, length-take-le}
use borrow.Author.Tests.{leb-false, lt-leb, not-true}
use Rattle.lists.specs.Lists.{filter, member}
use Rattle.lists.proofs.Places.{map_at}
use Rattle.lists.proofs.Lowest.{lowest-none}
use Rattle.sets.specs.Word.{dig}
use Rattle.sets.proofs.Digits.{never}
use Rattle.sets.proofs.Ones.{dig-below}
use Rattle.paper.specs.Drawing.{Wire}
use Rattle.paper.specs.Loops.{Loop, loop_at, flipped}
use Rattle.paper.specs.Verdict.{onward, normal_form, number_in, mask_of, not_candidate, face_twice}
use Rattle.means_check.specs.Candidates.{ProperCandidates}
use Rattle.means_solid.specs.Named.{SameRing, directed, Names}
use Rattle.means_loops.proofs.Rings.{same_length, flip_length}
use Rattle.means_check.proofs.Numbers.{number_at, number_in_lem, row_yes, row_is, none-lowest}
use Rattle.means_loops.proofs.Kept.{member_yes, member_is, filter_yes, filter_is}
use Rattle.means_loops.proofs.Lowest.{normal_on, normal_back, on_onward, on_normal, back_onward, back_normal}

-- ---- the faces of a list by their numbers

module _ (cs : List Loop) (fs : List Loop) where
  abbrev pub numbers_of : List ℕ
  numbers_of = map (number_in cs) fs

  abbrev pub taken_of : List Bool
  taken_of = mask_of (length cs) (map (number_in cs) fs)

  abbrev pub turned_of : List Bool
  turned_of = mask_of (length cs) (map (number_in cs) (filter (λ f. not (onward f)) fs))

  pub numbers_length : length (map (number_in cs) fs) ≡ length fs
  numbers_length = length-map fs (number_in cs)

  pub number_of_lem : (i : ℕ) → i < length fs → get_or (map (number_in cs) fs) i 0 ≡ number_in cs (loop_at fs i)
  number_of_lem i h = map_at (number_in cs) fs i [] 0 h

  pub taken_yes : (k : ℕ) → dig taken_of k ≡ true → (k < length cs) × ((i : ℕ) × (i < length fs) × (number_in cs (loop_at fs i) ≡ k))
  taken_yes k e =
      let r = row_yes (length cs) numbers_of k e in
      let q = member_yes k numbers_of r.1 in
      let h : q.0 < length fs = omega (arith, q.1, numbers_length) in
      (r.0, (q.0, h, sym (number_of_lem q.0 h) ∙ q.2))

  pub taken_is : (i k : ℕ) → i < length fs → number_in cs (loop_at fs i) ≡ k → k < length cs → dig taken_of k ≡ true
  taken_is i k h e l = row_is (length cs) numbers_of k l (member_is k numbers_of i (omega (arith, numbers_length)) (number_of_lem i h ∙ e))

  pub turned_yes : (k : ℕ) → dig turned_of k ≡ true
      → (k < length cs) × ((i : ℕ) × (i < length fs) × (number_in cs (loop_at fs i) ≡ k) × (onward (loop_at fs i) ≡ false))
  turned_yes k e =
      let gs = filter (λ f. not (onward f)) fs in
      let r = row_yes (length cs) (map (number_in cs) gs) k e in
      let q = member_yes k (map (number_in cs) gs) r.1 in
      let h : q.0 < length gs = omega (arith, q.1, length-map gs (number_in cs)) in
      let w = filter_yes [] (λ f. not (onward f)) fs q.0 h in (
        r.0,
        (
          w.0,
          w.1,
          ap (number_in cs) w.2 ∙ sym (map_at (number_in cs) gs q.0 [] 0 h)
              ∙ q.2,
          not-true (onward (loop_at fs w.0)) w.3,
        ),
      )

  pub turned_is : (i k : ℕ) → i < length fs → number_in cs (loop_at fs i) ≡ k → k < length cs → onward (loop_at fs i) ≡ false
      → dig turned_of k ≡ true
  turned_is i k h e l o =
      let gs = filter (λ f. not (onward f)) fs in
      let w = filter_is [] (λ f. not (onward f)) fs i h (ap not o) in
      row_is (length cs) (map (number_in cs) gs) k l
      (member_is k (map (number_in cs) gs) w.0 (omega (arith, w.1, length-map gs (number_in cs)))
      (map_at (number_in cs) gs w.0 [] 0 w.1 ∙ ap (number_in cs) w.2 ∙ e))

  -- the list passes 21 and 22: each face has a number, and no two have one
  pub record Numbered : Type 0 where
    pub known : (i : ℕ) → i < length fs → number_in cs (loop_at fs i) < length cs
    pub apart : (i j : ℕ) → i < length fs → j < length fs → number_in cs (loop_at fs i) ≡ number_in cs (loop_at fs j) → i ≡ j

  pub known-all : not_candidate (length cs) numbers_of ≡ none → (i : ℕ) → i < length fs → number_in cs (loop_at fs i) < length cs
  unfolding not_candidate
  known-all p i h =
      let e : leb (length cs) (get_or numbers_of i 0) ≡ false = lowest-none (λ i. leb (length cs) (get_or numbers_of i 0)) (length numbers_of) p i
      (omega (arith, numbers_length)) in
      omega (arith, leb-false (length cs) (get_or numbers_of i 0) e, number_of_lem i h)

  pub numbered : not_candidate (length cs) numbers_of ≡ none → face_twice numbers_of ≡ none → Numbered
  unfolding face_twice
  numbered p q = record {
    known = known-all p;
    apart = λ i j hi hj e. go i j hi hj (number_of_lem i hi ∙ e ∙ sym (number_of_lem j hj));
  }
    where
      before : (i j : ℕ) → i < j → j < length fs → get_or numbers_of i 0 ≡ get_or numbers_of j 0 → ⊥
      before i j h hj e =
          let l = numbers_length in
          let f = lowest-none (λ i. member (get_or numbers_of i 0) (take i numbers_of)) (length numbers_of) q j (omega arith) in
          let t = length-take-le j numbers_of (omega arith) in
          true≢false (sym (member_is (get_or numbers_of j 0) (take j numbers_of) i (omega arith) (get_or-take j numbers_of i 0 h ∙ e)) ∙ f)

      go : (i j : ℕ) → i < length fs → j < length fs → get_or numbers_of i 0 ≡ get_or numbers_of j 0 → i ≡ j
      go i j hi hj e =
          let a : i < j → ⊥ = λ h. before i j h hj e in
          let b : j < i → ⊥ = λ h. before j i h hi (sym e) in
          omega (arith, a, b)

  pub numbered_21 : Numbered → not_candidate (length cs) numbers_of ≡ none
  unfolding not_candidate
  numbered_21 n = none-lowest (λ i. leb (length cs) (get_or numbers_of i 0)) (length numbers_of) (λ i h.
      let l : i < length fs = omega (arith, numbers_length) in
      lt-leb (length cs) (get_or numbers_of i 0) (omega (arith, number_of_lem i l, n.known i l)))

  pub numbered_22 : Numbered → face_twice numbers_of ≡ none
  unfolding face_twice
  numbered_22 n =
      none-lowest (λ i. member (get_or numbers_of i 0) (take i numbers_of)) (length numbers_of)
      (λ j h. go j h (member (get_or numbers_of j 0) (take j numbers_of)) refl)
    where
      go : (j : ℕ) → j < length numbers_of → (b : Bool) → member (get_or numbers_of j 0) (take j numbers_of) ≡ b → b ≡ false
      go j h false e = refl
      go j h true e =
          let r = member_yes (get_or numbers_of j 0) (take j numbers_of) e in
          let l = numbers_length in
          let t = length-take-le j numbers_of (omega arith) in
          let i : r.0 < j = omega (arith, r.1) in
          let hj : j < length fs = omega arith in
          let hi : r.0 < length fs = omega arith in
          let q : number_in cs (loop_at fs r.0) ≡ number_in cs (loop_at fs j) = sym (number_of_lem r.0 hi)
          ∙ sym (get_or-take j numbers_of r.0 0 i) ∙ r.2 ∙ number_of_lem j hj in
          absurd (omega (arith, n.apart r.0 j hi hj q))

-- ---- a list that names a selection with its directions

module _ (d : Wire) (cs : List Loop) (c : ProperCandidates d cs) where
  number_is : (f : List ℕ) (k : ℕ) → k < length cs → normal_form f ≡ loop_at cs k → number_in cs f ≡ k
  number_is f k h e =
      let l = number_in_lem cs f k h e in
      c.differ (number_in cs f) k l h (sym (number_at cs f l) ∙ e)

  -- a candidate's ring has its number, either way round, and is not both
  pub either_number : (k : ℕ) (f : List ℕ) → k < length cs → SameRing (loop_at cs k) f ⊎ SameRing (flipped (loop_at cs k)) f
      → number_in cs f ≡ k
  either_number k f h (inl s) = number_is f k h (on_normal (loop_at cs k) (c.normal k h) f s)
  either_number k f h (inr s) = number_is f k h (back_normal (loop_at cs k) (c.normal k h) f s)

  pub not_both : (k : ℕ) (f : List ℕ) → k < length cs → SameRing (loop_at cs k) f → SameRing (flipped (loop_at cs k)) f → ⊥
  not_both k f h s t = true≢false (sym (on_onward (loop_at cs k) (c.normal k h) f s) ∙ back_onward (loop_at cs k) (c.normal k h) f t)

  module _ (taken turned : List Bool) where
    -- the faces that are a candidate's ring in its direction are those of its number that are run so
    pub ring-number : (k : ℕ) (f : List ℕ) → k < length cs → SameRing (directed d cs taken turned k) f
        → (number_in cs f ≡ k) × (onward f ≡ not (dig turned k))
    ring-number k f h s = go (dig turned k) s
      where
        go : (b : Bool) → SameRing (cond b (flipped (loop_at cs k)) (loop_at cs k)) f → (number_in cs f ≡ k) × (onward f ≡ not b)
        go true s = (number_is f k h (back_normal (loop_at cs k) (c.normal k h) f s), back_onward (loop_at cs k) (c.normal k h) f s)
        go false s = (number_is f k h (on_normal (loop_at cs k) (c.normal k h) f s), on_onward (loop_at cs k) (c.normal k h) f s)

    pub number-ring : (k : ℕ) (f : List ℕ) → k < length cs → number_in cs f ≡ k → onward f ≡ not (dig turned k)
        → SameRing (directed d cs taken turned k) f
    number-ring k f h e o = go (dig turned k) o
      where
        form : normal_form f ≡ loop_at cs k
        form = number_at cs f (omega arith) ∙ ap (loop_at cs) e

        go : (b : Bool) → onward f ≡ not b → SameRing (cond b (flipped (loop_at cs k)) (loop_at cs k)) f
        go true o = subst (λ (l : List ℕ). SameRing (flipped l) f) form (normal_back f o)
        go false o = subst (λ (l : List ℕ). SameRing l f) form (normal_on f o)

  module _ (fs : List Loop) where
    module _ (n : Numbered cs fs) where
      -- the direction that is read off the list
      way_of : (i : ℕ) → i < length fs → onward (loop_at fs i) ≡ not (dig (turned_of cs fs) (number_in cs (loop_at fs i)))
      way_of i h = go (onward (loop_at fs i)) (dig (turned_of cs fs) (number_in cs (loop_at fs i))) refl refl
        where
          go : (a b : Bool) → onward (loop_at fs i) ≡ a → dig (turned_of cs fs) (number_in cs (loop_at fs i)) ≡ b → a ≡ not b
          go true false p q = refl
          go false true p q = refl
          go false false p q = never (sym (turned_is cs fs i (number_in cs (loop_at fs i)) h refl (n.known i h) p) ∙ q)
          go true true p q =
              let r = (turned_yes cs fs (number_in cs (loop_at fs i)) q).1 in
              let e : r.0 ≡ i = n.apart r.0 i r.1 h r.2 in
              sym p ∙ subst (λ (j : ℕ). onward (loop_at fs j) ≡ false) e r.3

      pub numbered_names : Names d cs (taken_of cs fs) (turned_of cs fs) fs
      numbered_names = record {
        each = λ i h. (
          number_in cs (loop_at fs i),
          taken_is cs fs i (number_in cs (loop_at fs i)) h refl (n.known i h),
          number-ring (taken_of cs fs) (turned_of cs fs) (number_in cs (loop_at fs i)) (loop_at fs i) (n.known i h) refl (way_of i h),
        );
        there = λ k h.
            let r = taken_yes cs fs k h in
            let q = r.1 in (
              q.0,
              q.1,
              number-ring (taken_of cs fs) (turned_of cs fs) k (loop_at fs q.0) r.0 q.2
                  (way_of q.0 q.1 ∙ ap (λ (j : ℕ). not (dig (turned_of cs fs) j)) q.2),
            );
        once = λ i j k hi hj s t. by i j k hi hj s t (dec_lt k (length cs));
      }
        where
          by : (i j k : ℕ) → i < length fs → j < length fs → SameRing (directed d cs (taken_of cs fs) (turned_of cs fs) k) (loop_at fs i)
              → SameRing (directed d cs (taken_of cs fs) (turned_of cs fs) k) (loop_at fs j) → Dec (k < length cs) → i ≡ j
          by i j k hi hj s t (yes h) =
              n.apart i j hi hj ((ring-number (taken_of cs fs) (turned_of cs fs) k (loop_at fs i) h s).0
              ∙ sym (ring-number (taken_of cs fs) (turned_of cs fs) k (loop_at fs j) h t).0)
          by i j k hi hj s t (no h) = absurd empty
            where
              nothing : (b : Bool) (l : List ℕ) → l ≡ [] → length (cond b (flipped l) l) ≡ 0
              nothing true l e = flip_length l ∙ ap length e
              nothing false l e = ap length e

              -- a face that has a number is no empty one
              empty : ⊥
              empty =
                  let z : length (loop_at fs i) ≡ 0 = same_length s
                  ∙ nothing (dig (turned_of cs fs) k) (loop_at cs k) (get_or-eq_default cs [] (omega arith)) in
                  let u : length (loop_at fs i) ≡ length (directed d cs (taken_of cs fs) (turned_of cs fs) (number_in cs (loop_at fs i)))
                  = same_length
                  (number-ring (taken_of cs fs) (turned_of cs fs) (number_in cs (loop_at fs i)) (loop_at fs i) (n.known i hi) refl
                  (way_of i hi)) in
                  let w = (c.normal (number_in cs (loop_at fs i)) (n.known i hi)).three in
                  omega (arith, size (dig (turned_of cs fs) (number_in cs (loop_at fs i))) (loop_at cs (number_in cs (loop_at fs i))))
                where
                  size : (b : Bool) (l : List ℕ) → length (cond b (flipped l) l) ≡ length l
                  size true l = flip_length l
                  size false l = refl

    -- what names a selection is numbered, and its masks are the selection's
    module _ (taken turned : List Bool) (some : length taken ≡ length cs) (within : (k : ℕ) → dig turned k ≡ true → dig taken k ≡ true)
        (n : Names d cs taken turned fs) where
      -- the number of face i is that of the face it is
      number_each : (i : ℕ) → i < length fs → (k : ℕ) × (dig taken k ≡ true) × (number_in cs (loop_at fs i) ≡ k)
          × (onward (loop_at fs i) ≡ not (dig turned k))
      number_each i h =
          let r = n.each i h in
          let q = ring-number taken turned r.0 (loop_at fs i) (dig-below taken some r.0 r.1) r.2 in
          (r.0, r.1, q.0, q.1)

      pub names_numbered : Numbered cs fs
      unfolding number_each
      names_numbered = record {
        known = λ i h. let r = number_each i h in omega (arith, dig-below taken some r.0 r.1, r.2);
        apart = λ i j hi hj e.
            let r = n.each i hi in
            let p = number_each i hi in
            let q = number_each j hj in
            let same : number_in cs (loop_at fs j) ≡ p.0 = sym e ∙ p.2 in
            n.once i j p.0 hi hj r.2
            (number-ring taken turned p.0 (loop_at fs j) (dig-below taken some p.0 p.1) same
            (q.3 ∙ ap (λ (k : ℕ). not (dig turned k)) (sym q.2 ∙ same)));
      }

      pub names_taken : (k : ℕ) → dig (taken_of cs fs) k ≡ dig taken k
      names_taken k = go (dig (taken_of cs fs) k) (dig taken k) refl refl
        where
          go : (a b : Bool) → dig (taken_of cs fs) k ≡ a → dig taken k ≡ b → a ≡ b
          go true true p q = refl
          go false false p q = refl
          go true false p q =
              let r = (taken_yes cs fs k p).1 in
              let w = number_each r.0 r.1 in
              sym (subst (λ (j : ℕ). dig taken j ≡ true) (sym w.2 ∙ r.2) w.1) ∙ q
          go false true p q =
              let h = dig-below taken some k q in
              let r = n.there k q in
              sym p ∙ taken_is cs fs r.0 k r.1 (ring-number taken turned k (loop_at fs r.0) h r.2).0 h

      pub names_turned : (k : ℕ) → dig (turned_of cs fs) k ≡ dig turned k
      names_turned k = go (dig (turned_of cs fs) k) (dig turned k) refl refl
        where
          go : (a b : Bool) → dig (turned_of cs fs) k ≡ a → dig turned k ≡ b → a ≡ b
          go true true p q = refl
          go false false p q = refl
          go true false p q =
              let r = (turned_yes cs fs k p).1 in
              let w = number_each r.0 r.1 in
              let e : dig turned w.0 ≡ false = ap (dig turned) (sym w.2 ∙ r.2) ∙ q in
              never (sym (w.3 ∙ ap not e) ∙ r.3)
          go false true p q =
              let h = dig-below taken some k (within k q) in
              let r = n.there k (within k q) in
              let w = ring-number taken turned k (loop_at fs r.0) h r.2 in
              sym p ∙ turned_is cs fs r.0 k r.1 w.0 h (w.1 ∙ ap not q)

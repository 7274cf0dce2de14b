-- The checks 21 to 27 are the lines of the table: each finds the lowest place that offends.
use mathlib.Core.Path.{◌≡◌, refl, sym, ap, subst, ◌∙◌}
use mathlib.Core.Bool.{Bool, true, false, not}
use mathlib.Core.Logic.{inl, inr}
use mathlib.Core.Option.{none}
use mathlib.Core.List.{List, [], map}
use Prim.Native.Nat.{ℕ, ◌≤◌, ◌<◌}
use native.Mathlib.Omega.{arith}
use native.Mathlib.Decide.{dec_lt, ℕ_discrete}
use borrow.Author.Tests.{leb-true, le-leb}
use lib.Dec.{leb, eqb}
use lib.ListN.{length, get_or, take}
use lib.Seq.{get_or-take, length-take-le}
use Rattle.lists.specs.Lists.{lowest, member}
use Rattle.lists.proofs.Truth.{and_left, and_right, and_both}
use Rattle.sets.specs.Word.{dig, count, both, first}
use Rattle.sets.proofs.Digits.{never, dig-both, count_none, first_in}
use Rattle.sets.proofs.Ones.{dig-below}
use Rattle.paper.specs.Refusals as No
use Rattle.paper.specs.Refusals.{offends}
use Rattle.paper.specs.Points.{above}
use Rattle.paper.specs.Drawing.{Wire, edge_at}
use Rattle.paper.specs.Loops.{Loop, loop_at, flipped, polygon}
use Rattle.paper.specs.Clash.{clash}
use Rattle.paper.specs.Solids.{tables_of, in_two, once_each_way, faces_from, six_from, clashing}
use Rattle.paper.specs.Verdict.{number_in, listed, not_candidate, face_twice, edge_count, direction, pieces, inward, clashes, face_checks}
use Rattle.means_drawing.specs.Drawings.{Finds}
use Rattle.means_drawing.proofs.Searches.{finds}
use Rattle.means_solid.specs.Solid.{InTwo, EachWay, Way}
use Rattle.means_solid.specs.Named.{SameRing}
use Rattle.means_loops.proofs.Kept.{member_yes, member_is}
use Rattle.means_loops.proofs.Rings.{same_sym, same_trans, flip-flip, flip-same}
use Rattle.means_leaf.proofs.Reaches.{reached_ways, ways_reached}
use Rattle.means_masks.proofs.Edges.{in_two_lem, two_in}
use Rattle.means_masks.proofs.Tables.{EachTwo, masks_length, as_many, mask_at, two_masks, way-through, through-way, ways_at, at_ways}
use Rattle.means_masks.proofs.Tables.{clash-dig, clashing_is, clashing_self}
use Rattle.means_check.specs.Candidates.{ProperCandidates}
use Rattle.means_check.proofs.Numbers.{is_candidate, row_length}
use Rattle.means_check.proofs.Numbered.{numbers_of, taken_of, turned_of, numbers_length, number_of_lem, taken_is, known-all, either_number}
use Rattle.means_check.proofs.Tests.{all_proper, inward_six, six_inward, edges_two}
use Rattle.means_clash.specs.Clash.{ClashOf}
use Rattle.demands.specs.Shells.{Either, NoCandidate, AnEarlierFace, NotTwoFaces, NotOnceEachWay, NotJoined, NoVolume, ClashesWithAnother, shells}
use Rattle.paper_laws.proofs.Tests.{Is, is_eq, is_not}
use Rattle.means_clash.proofs.Words.{two_corners, is_clash}
use Rattle.demands.proofs.Table.{Says, done, also, also_one}

-- ---- one ring, in any direction or start

pub either_trans : {f g h : Loop} → Either f g → Either g h → Either f h
either_trans (inl p) (inl q) = inl (same_trans p q)
either_trans (inl p) (inr q) = inr (same_trans (flip-same p) q)
either_trans (inr p) (inl q) = inr (same_trans p q)
either_trans {f} {g} {h} (inr p) (inr q) =
    inl (same_trans (subst (λ (l : Loop). SameRing l (flipped g)) (flip-flip f) (flip-same p)) q)

pub either_sym : {f g : Loop} → Either f g → Either g f
either_sym (inl p) = inl (same_sym p)
either_sym {f} {g} (inr p) = inr (same_sym (subst (λ (l : Loop). SameRing l (flipped g)) (flip-flip f) (flip-same p)))

-- a search among as many as there are
finds_all : (p : ℕ → Bool) (P : ℕ → Type 0) {m n : ℕ} → m ≡ n → ((k : ℕ) → k < n → Is (p k) (P k)) → Finds P n (lowest p m)
finds_all p P {m} {n} e f = subst (λ (n : ℕ). Finds P n (lowest p m)) e (finds p P m (λ k h. f k (omega arith)))

module _ (d : Wire) (cs fs : List Loop) (c : ProperCandidates d cs) where
  -- ---- 21

  is_none : (i : ℕ) → i < length fs → Is (leb (length cs) (get_or (numbers_of cs fs) i 0)) (NoCandidate d cs fs i)
  is_none i h = (
    λ e k l r. omega (
      arith,
      leb-true (length cs) (get_or (numbers_of cs fs) i 0) e,
      number_of_lem cs fs i h,
      either_number d cs c k (loop_at fs i) l r,
    ),
    λ f. le-leb (length cs) (get_or (numbers_of cs fs) i 0) (go f (dec_lt (number_in cs (loop_at fs i)) (length cs))),
  )
    where
      go : NoCandidate d cs fs i → Dec (number_in cs (loop_at fs i) < length cs) → length cs ≤ get_or (numbers_of cs fs) i 0
      go f (yes l) = let r = is_candidate cs (loop_at fs i) l in absurd (f r.0 r.1 r.2)
      go f (no l) = omega (arith, number_of_lem cs fs i h)

  finds_21 : Finds (NoCandidate d cs fs) (length fs) (not_candidate (length cs) (numbers_of cs fs))
  unfolding not_candidate
  finds_21 = finds_all (λ i. leb (length cs) (get_or (numbers_of cs fs) i 0)) (NoCandidate d cs fs) (numbers_length cs fs) is_none

  abbrev Known : Type 0
  Known = (i : ℕ) → i < length fs → number_in cs (loop_at fs i) < length cs

  -- ---- 22, where 21 passes

  module _ (n : Known) where
    ring-at : (i : ℕ) → i < length fs → Either (loop_at cs (get_or (numbers_of cs fs) i 0)) (loop_at fs i)
    ring-at i h =
        let r = is_candidate cs (loop_at fs i) (n i h) in
        subst (λ (k : ℕ). Either (loop_at cs k) (loop_at fs i))
        (sym (number_of_lem cs fs i h ∙ either_number d cs c r.0 (loop_at fs i) r.1 r.2)) r.2

    low : (i : ℕ) → i < length fs → get_or (numbers_of cs fs) i 0 < length cs
    low i h = omega (arith, number_of_lem cs fs i h, n i h)

    is_twice : (i : ℕ) → i < length fs → Is (member (get_or (numbers_of cs fs) i 0) (take i (numbers_of cs fs))) (AnEarlierFace d cs fs i)
    is_twice i h = (
      λ e.
          let r = member_yes (get_or (numbers_of cs fs) i 0) (take i (numbers_of cs fs)) e in
          let l : r.0 < i = omega (arith, r.1, long) in
          let same : get_or (numbers_of cs fs) r.0 0 ≡ get_or (numbers_of cs fs) i 0 = sym (get_or-take i (numbers_of cs fs) r.0 0 l) ∙ r.2 in (
            r.0,
            l,
            either_trans (either_sym (ring-at r.0 (omega arith)))
                (subst (λ (k : ℕ). Either (loop_at cs k) (loop_at fs i)) (sym same) (ring-at i h)),
          ),
      λ r.
          let j = r.0 in
          let l = r.1 in
          let k = get_or (numbers_of cs fs) j 0 in
          let hj : j < length fs = omega arith in
          let e = either_number d cs c k (loop_at fs i) (low j hj) (either_trans (ring-at j hj) r.2) in
          member_is (get_or (numbers_of cs fs) i 0) (take i (numbers_of cs fs)) j (omega (arith, long))
          (get_or-take i (numbers_of cs fs) j 0 l ∙ sym (number_of_lem cs fs i h ∙ e)),
    )
      where
        long : length (take i (numbers_of cs fs)) ≡ i
        long = length-take-le i (numbers_of cs fs) (omega (arith, numbers_length cs fs))

    finds_22 : Finds (AnEarlierFace d cs fs) (length fs) (face_twice (numbers_of cs fs))
    unfolding face_twice
    finds_22 =
        finds_all (λ i. member (get_or (numbers_of cs fs) i 0) (take i (numbers_of cs fs))) (AnEarlierFace d cs fs) (numbers_length cs fs) is_twice

    -- each face is taken
    face-at : (i : ℕ) → i < length fs → dig (taken_of cs fs) (get_or (numbers_of cs fs) i 0) ≡ true
    face-at i h = taken_is cs fs i (get_or (numbers_of cs fs) i 0) h (sym (number_of_lem cs fs i h)) (low i h)

  -- ---- 23 and 24

  is_two : (e : ℕ) → e < length d.edges
      → Is (in_two (get_or (tables_of d cs).masks e []) (taken_of cs fs)) (InTwo d cs (taken_of cs fs) (turned_of cs fs) (edge_at d e))
  unfolding in_two
  is_two e h =
      let m = mask_at d cs e h in
      let i = is_eq (count (both (get_or (tables_of d cs).masks e []) (taken_of cs fs))) 2 in (
        λ t. two_in d cs (taken_of cs fs) (turned_of cs fs) (edge_at d e)
            (ap (λ (m : List Bool). count (both m (taken_of cs fs))) (sym m) ∙ i.0 t),
        λ t. i.1 (ap (λ (m : List Bool). count (both m (taken_of cs fs))) m ∙ in_two_lem d cs (taken_of cs fs) (turned_of cs fs) (edge_at d e) t),
      )

  finds_23 : Finds (λ e. InTwo d cs (taken_of cs fs) (turned_of cs fs) (edge_at d e) → ⊥) (length d.edges)
      (edge_count (tables_of d cs) (taken_of cs fs))
  unfolding edge_count
  finds_23 =
      finds_all (λ e. not (in_two (get_or (tables_of d cs).masks e []) (taken_of cs fs)))
      (λ e. InTwo d cs (taken_of cs fs) (turned_of cs fs) (edge_at d e) → ⊥) (masks_length d cs)
      (λ e h. is_not (in_two (get_or (tables_of d cs).masks e []) (taken_of cs fs)) (is_two e h))

  finds_24 : Finds (λ e. EachWay d cs (taken_of cs fs) (turned_of cs fs) (edge_at d e) → ⊥) (length d.edges)
      (direction (tables_of d cs) (taken_of cs fs) (turned_of cs fs))
  unfolding direction
  finds_24 =
      finds_all
      (λ e. not (once_each_way (get_or (tables_of d cs).masks e []) (get_or (tables_of d cs).ups e []) (taken_of cs fs) (turned_of cs fs)))
      (λ e. EachWay d cs (taken_of cs fs) (turned_of cs fs) (edge_at d e) → ⊥) (masks_length d cs)
      (λ e h. is_not
      (once_each_way (get_or (tables_of d cs).masks e []) (get_or (tables_of d cs).ups e []) (taken_of cs fs) (turned_of cs fs)) (
        ways_at d cs (taken_of cs fs) (turned_of cs fs) (all_proper c) e h,
        at_ways d cs (taken_of cs fs) (turned_of cs fs) (all_proper c) e h,
      ))

  -- ---- 25, where 21 and 23 pass

  module _ (n : Known) (two : EachTwo d cs (taken_of cs fs) (turned_of cs fs)) where
    abbrev numbered : ℕ → ℕ
    numbered i = get_or (numbers_of cs fs) i 0

    is_joined : (i : ℕ) → i < length fs
        → Is (dig (faces_from (numbered 0) (tables_of d cs) (taken_of cs fs)).reached (numbered i))
        (Way d cs (taken_of cs fs) (turned_of cs fs) (numbered 0) (numbered i))
    unfolding faces_from
    is_joined i h =
        let z = face-at n 0 (omega arith) in (
          λ e. way-through d cs (taken_of cs fs) (turned_of cs fs) z
              (reached_ways (tables_of d cs).masks (tables_of d cs).ups (taken_of cs fs) (numbered 0) (numbered i) e),
          λ w. ways_reached (tables_of d cs).masks (tables_of d cs).ups (taken_of cs fs) (as_many d cs)
              (two_masks d cs (taken_of cs fs) (turned_of cs fs) two) (numbered 0) z (numbered i)
              (through-way d cs (taken_of cs fs) (turned_of cs fs) w),
        )

    finds_25 : Finds (λ i. Way d cs (taken_of cs fs) (turned_of cs fs) (numbered 0) (numbered i) → ⊥) (length fs)
        (pieces (tables_of d cs) (numbers_of cs fs) (taken_of cs fs))
    unfolding pieces
    finds_25 =
        finds_all (λ i. not (dig (faces_from (numbered 0) (tables_of d cs) (taken_of cs fs)).reached (numbered i)))
        (λ i. Way d cs (taken_of cs fs) (turned_of cs fs) (numbered 0) (numbered i) → ⊥) (numbers_length cs fs)
        (λ i h. is_not (dig (faces_from (numbered 0) (tables_of d cs) (taken_of cs fs)).reached (numbered i)) (is_joined i h))

  -- ---- 26

  is_inward : Is (not (above (six_from 0 (tables_of d cs).sixes (taken_of cs fs) (turned_of cs fs)))) (NoVolume d cs fs)
  unfolding listed inward
  is_inward = (
    λ e six p h.
        let z : offends (not (above (six_from 0 (tables_of d cs).sixes (taken_of cs fs) (turned_of cs fs)))) 0 ≡ none
        = six_inward d cs (taken_of cs fs) (turned_of cs fs) six p h in
        let y : offends true 0 ≡ none = ap (λ (b : Bool). offends b 0) (sym e) ∙ z in
        let x : ◌≡◌ {A = ℕ} 0 1 = cc in
        omega arith,
    λ f. go f (above (six_from 0 (tables_of d cs).sixes (taken_of cs fs) (turned_of cs fs))) refl,
  )
    where
      go : NoVolume d cs fs → (b : Bool) → above (six_from 0 (tables_of d cs).sixes (taken_of cs fs) (turned_of cs fs)) ≡ b → not b ≡ true
      go f false e = refl
      go f true e =
          let r = inward_six d cs (taken_of cs fs) (turned_of cs fs) (ap (λ (b : Bool). offends (not b) 0) e) in
          absurd (f r.0 r.1 r.2)

  -- ---- 27, where 21 passes

  module _ (n : Known) where
    some : length (taken_of cs fs) ≡ length cs
    some = row_length (length cs) (numbers_of cs fs)

    abbrev clashes_of : ℕ → List Bool
    clashes_of j = get_or (tables_of d cs).clashes j []

    abbrev OtherClash : ℕ → Type 0
    OtherClash j =
        (k : ℕ) × (dig (taken_of cs fs) k ≡ true) × (j ≡ k → ⊥) × ClashOf (polygon d (loop_at cs j)) (polygon d (loop_at cs k))

    in_words : (j k : ℕ) → j < length cs → k < length cs
        → Is (clash (polygon d (loop_at cs j)) (polygon d (loop_at cs k))) (ClashOf (polygon d (loop_at cs j)) (polygon d (loop_at cs k)))
    in_words j k hj hk =
        is_clash (polygon d (loop_at cs j)) (polygon d (loop_at cs k)) (two_corners d (loop_at cs j) (c.normal j hj).three)
        (two_corners d (loop_at cs k) (c.normal k hk).three)

    is_other : (j : ℕ) → j < length cs → Is (not (eqb (count (both (clashes_of j) (taken_of cs fs))) 0)) (OtherClash j)
    is_other j hj = (
      λ e.
          let ne = (is_not (eqb (count (both (clashes_of j) (taken_of cs fs))) 0) (is_eq (count (both (clashes_of j) (taken_of cs fs))) 0)).0 e in
          let k = first (both (clashes_of j) (taken_of cs fs)) in
          let b = sym (dig-both (clashes_of j) (taken_of cs fs) k) ∙ first_in (both (clashes_of j) (taken_of cs fs)) ne in
          let t = and_right (dig (clashes_of j) k) (dig (taken_of cs fs) k) b in
          let hk = dig-below (taken_of cs fs) some k t in
          found k t hk (sym (clash-dig d cs c.even (taken_of cs fs) some j k hj hk) ∙ and_left (dig (clashes_of j) k) (dig (taken_of cs fs) k) b)
          (ℕ_discrete j k),
      λ r.
          let hk = dig-below (taken_of cs fs) some r.0 r.1 in
          (is_not (eqb (count (both (clashes_of j) (taken_of cs fs))) 0) (is_eq (count (both (clashes_of j) (taken_of cs fs))) 0)).1
          (λ z. count_none (both (clashes_of j) (taken_of cs fs)) z r.0
          (dig-both (clashes_of j) (taken_of cs fs) r.0
          ∙ and_both (clash-dig d cs c.even (taken_of cs fs) some j r.0 hj hk
          ∙ clashing_is d cs c.even (taken_of cs fs) some j r.0 hj hk r.2 ∙ (in_words j r.0 hj hk).1 r.3) r.1)),
    )
      where
        found : (k : ℕ) → dig (taken_of cs fs) k ≡ true → k < length cs
            → clashing (map (polygon d) cs) j k ≡ true → Dec (j ≡ k) → OtherClash j
        found k t hk e (yes z) =
            never (sym (subst (λ (x : ℕ). clashing (map (polygon d) cs) j x ≡ true) (sym z) e)
            ∙ clashing_self d cs c.even (taken_of cs fs) some j)
        found k t hk e (no z) =
            (k, t, z, (in_words j k hj hk).0 (sym (clashing_is d cs c.even (taken_of cs fs) some j k hj hk z) ∙ e))

    finds_27 : Finds (λ i. OtherClash (get_or (numbers_of cs fs) i 0)) (length fs) (clashes (tables_of d cs) (numbers_of cs fs) (taken_of cs fs))
    unfolding clashes
    finds_27 =
        finds_all (λ i. not (eqb (count (both (clashes_of (get_or (numbers_of cs fs) i 0)) (taken_of cs fs))) 0))
        (λ i. OtherClash (get_or (numbers_of cs fs) i 0)) (numbers_length cs fs)
        (λ i h. is_other (get_or (numbers_of cs fs) i 0) (low n i h))

  -- ---- in the table's order

  pub shells_say : Says (shells d cs fs) (face_checks (tables_of d cs) (length cs) (listed cs fs))
  unfolding face_checks listed inward
  shells_say =
      also No.NotCandidate (length fs) (NoCandidate d cs fs) (not_candidate (length cs) (numbers_of cs fs)) _ _ finds_21
      (λ p. also No.FaceTwice (length fs) (AnEarlierFace d cs fs) (face_twice (numbers_of cs fs)) _ _ (finds_22 (known-all cs fs p))
      (λ e. also No.EdgeCount (length d.edges) (NotTwoFaces d cs fs) (edge_count (tables_of d cs) (taken_of cs fs)) _ _ finds_23
      (λ q. also No.Direction (length d.edges) (NotOnceEachWay d cs fs) (direction (tables_of d cs) (taken_of cs fs) (turned_of cs fs)) _ _ finds_24
      (λ e. also No.Pieces (length fs) (NotJoined d cs fs) (pieces (tables_of d cs) (numbers_of cs fs) (taken_of cs fs)) _ _
      (finds_25 (known-all cs fs p) (edges_two d cs (taken_of cs fs) (turned_of cs fs) q))
      (λ e. also_one No.Inward (NoVolume d cs fs) (not (above (six_from 0 (tables_of d cs).sixes (taken_of cs fs) (turned_of cs fs)))) is_inward _ _
      (λ e. also No.Clash (length fs) (ClashesWithAnother d cs fs) (clashes (tables_of d cs) (numbers_of cs fs) (taken_of cs fs)) (λ below. below) []
      (finds_27 (known-all cs fs p)) (λ e. done)))))))

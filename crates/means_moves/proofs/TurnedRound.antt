-- A list with every face turned round has the numbers of the list, and just the directions that it has not; so the check's 21 to 27 say
-- the same of it, by tables whose six volumes have the other sign.
use mathlib.Core.Path.{◌≡◌, refl, sym, ap, ◌∙◌, subst}
use mathlib.Core.Bool.{Bool, true, false, not, ◌&&◌}
use mathlib.Core.Logic.{◌⊎◌, inl, inr}
use mathlib.Core.Option.{Option, none, some}
use mathlib.Core.List.{List, [], ◌∷◌, map}
use Prim.Native.Nat.{ℕ, zero, suc, ◌*◌, ◌≤◌, ◌<◌}
use native.Mathlib.Omega.{arith}
use native.Mathlib.Decide.{dec_lt}
use native.Mathlib.Nat.{mul-zero, mul-pos}
use borrow.Author.Tests.{lt-ltb}
use lib.Dec.{ltb}
use lib.Signed.{lt_z}
use lib.IntN.{ℤ, pos, negsuc, neg_ℤ, ◌*ℤ◌, neg_ℤ-neg_ℤ}
use lib.ListN.{length, get_or, length-map}
use lib.Seq.{ext_get_or}
use Rattle.lists.specs.Lists.{lowest, same_list}
use Rattle.lists.proofs.Truth.{same_truth, and_left, and_right, and_both, never_true}
use Rattle.sets.specs.Word.{dig, first, less}
use Rattle.sets.proofs.Digits.{never, dig-less}
use Rattle.paper.specs.declared.Number.{Number}
use Rattle.paper.specs.Refusals as No
use Rattle.paper.specs.Refusals.{Check, check, first_of, offends}
use Rattle.paper.specs.Points.{above}
use Rattle.paper.specs.Drawing.{Wire}
use Rattle.paper.specs.Loops.{Loop, loop_at, flipped}
use Rattle.paper.specs.Solids.{Tables, faces_from, six_from}
use Rattle.paper.specs.Verdict.{onward, normal_form, number_in, Listed, not_candidate, face_twice, edge_count, direction, pieces, inward}
use Rattle.paper.specs.Verdict.{clashes, face_checks}
use Rattle.means_solid.specs.Named.{SameRing}
use Rattle.means_loops.proofs.Rings.{same_sym, same_trans, flip-flip, flip-same}
use Rattle.means_loops.proofs.Lowest.{on_onward, back_onward}
use Rattle.means_leaf.specs.Meaning.{TurnedRound}
use Rattle.means_leaf.proofs.Forced.{once_opposite}
use Rattle.means_leaf.proofs.Solids.{six_opposite}
use Rattle.means_check.specs.Candidates.{ProperCandidates}
use Rattle.means_check.proofs.Numbers.{is_candidate}
use Rattle.means_check.proofs.Numbered.{numbers_of, taken_of, turned_of, taken_yes, taken_is, turned_yes, turned_is, number_of_lem, numbers_length}
use Rattle.means_check.proofs.Numbered.{Numbered, either_number}
use Rattle.means_moves.specs.TurnedRound.{AllTurned}

-- ---- one face

-- "the other way round" goes both ways
round_back : {f g : List ℕ} → SameRing (flipped f) g → SameRing (flipped g) f
round_back {f} {g} s = same_sym (subst (λ (l : List ℕ). SameRing l (flipped g)) (flip-flip f) (flip-same s))

first_most : (a : List Bool) → first a ≤ length a
unfolding first
first_most [] = omega arith
first_most (true ∷ a) = omega arith
first_most (false ∷ a) = omega (arith, first_most a)

number_most : (cs : List Loop) (f : List ℕ) → number_in cs f ≤ length cs
unfolding number_in
number_most cs f = omega (arith, first_most (map (same_list (normal_form f)) cs), length-map cs (same_list (normal_form f)))

module _ (d : Wire) (cs : List Loop) (c : ProperCandidates d cs) where
  -- a candidate has one number either way round, and is run in its normal form's direction one way
  face-round : (f g : List ℕ) → SameRing (flipped f) g → number_in cs f < length cs
      → (number_in cs g ≡ number_in cs f) × (onward g ≡ not (onward f))
  face-round f g s h = let r = is_candidate cs f h in go r.0 r.1 r.2
    where
      go : (k : ℕ) → k < length cs → SameRing (loop_at cs k) f ⊎ SameRing (flipped (loop_at cs k)) f
          → (number_in cs g ≡ number_in cs f) × (onward g ≡ not (onward f))
      go k l (inl r) =
          let b : SameRing (flipped (loop_at cs k)) g = same_trans (flip-same r) s in (
            either_number d cs c k g l (inr b) ∙ sym (either_number d cs c k f l (inl r)),
            back_onward (loop_at cs k) (c.normal k l) g b ∙ sym (ap not (on_onward (loop_at cs k) (c.normal k l) f r)),
          )
      go k l (inr r) =
          let b : SameRing (loop_at cs k) g = same_trans (same_sym (round_back r)) s in (
            either_number d cs c k g l (inl b) ∙ sym (either_number d cs c k f l (inr r)),
            on_onward (loop_at cs k) (c.normal k l) g b ∙ sym (ap not (back_onward (loop_at cs k) (c.normal k l) f r)),
          )

  -- what is no candidate is none either way round
  number-round : (f g : List ℕ) → SameRing (flipped f) g → number_in cs g ≡ number_in cs f
  number-round f g s = go (dec_lt (number_in cs f) (length cs)) (dec_lt (number_in cs g) (length cs))
    where
      go : Dec (number_in cs f < length cs) → Dec (number_in cs g < length cs) → number_in cs g ≡ number_in cs f
      go (yes h) q = (face-round f g s h).0
      go (no n) (yes h) = sym (face-round g f (round_back s) h).0
      go (no n) (no m) = omega (arith, number_most cs f, number_most cs g)

  -- ---- the whole list

  module _ (fs gs : List Loop) (t : AllTurned fs gs) where
    pub numbers_round : numbers_of cs gs ≡ numbers_of cs fs
    numbers_round =
        ext_get_or 0 (numbers_of cs gs) (numbers_of cs fs) (numbers_length cs gs ∙ t.as_many ∙ sym (numbers_length cs fs)) (λ i h.
        let hg : i < length gs = omega (arith, numbers_length cs gs) in
        let hf : i < length fs = omega (arith, t.as_many) in
        number_of_lem cs gs i hg ∙ number-round (loop_at fs i) (loop_at gs i) (t.each i hf) ∙ sym (number_of_lem cs fs i hf))

    -- what passes 21 and 22 is turned just where the list is not
    module _ (n : Numbered cs fs) where
      abbrev other : ℕ → Bool
      other k = dig (taken_of cs fs) k && not (dig (turned_of cs fs) k)

      there : (k : ℕ) → dig (turned_of cs gs) k ≡ true → other k ≡ true
      there k e =
          let r = turned_yes cs gs k e in
          let q = r.1 in
          let i = q.0 in
          let h : i < length fs = omega (arith, q.1, t.as_many) in
          let w = face-round (loop_at fs i) (loop_at gs i) (t.each i h) (n.known i h) in
          let m : number_in cs (loop_at fs i) ≡ k = sym w.0 ∙ q.2 in
          let back : dig (turned_of cs fs) k ≡ true → ⊥ = λ o.
          let p = (turned_yes cs fs k o).1 in
          let z : p.0 ≡ i = n.apart p.0 i p.1 h (p.2 ∙ sym m) in
          never (sym (ap not (sym (ap (λ (j : ℕ). onward (loop_at fs j)) z) ∙ p.3)) ∙ sym w.1 ∙ q.3) in
          and_both (taken_is cs fs i k h m r.0) (ap not (never_true (dig (turned_of cs fs) k) back))

      here : (k : ℕ) → other k ≡ true → dig (turned_of cs gs) k ≡ true
      here k e =
          let r = taken_yes cs fs k (and_left (dig (taken_of cs fs) k) (not (dig (turned_of cs fs) k)) e) in
          let q = r.1 in
          let i = q.0 in
          let h : i < length gs = omega (arith, q.1, t.as_many) in
          let w = face-round (loop_at fs i) (loop_at gs i) (t.each i q.1) (n.known i q.1) in
          turned_is cs gs i k h (w.0 ∙ q.2) r.0 (w.1 ∙ ap not (on (onward (loop_at fs i)) i refl q.1 q.2 r.0))
        where
          on : (b : Bool) (i : ℕ) → onward (loop_at fs i) ≡ b → i < length fs → number_in cs (loop_at fs i) ≡ k → k < length cs → b ≡ true
          on true i o h m l = refl
          on false i o h m l =
              never (sym (and_right (dig (taken_of cs fs) k) (not (dig (turned_of cs fs) k)) e)
              ∙ ap not (turned_is cs fs i k h m l o))

      pub turned_round : (k : ℕ) → dig (turned_of cs gs) k ≡ dig (less (taken_of cs fs) (turned_of cs fs)) k
      turned_round k = same_truth (dig (turned_of cs gs) k) (other k) (there k) (here k) ∙ sym (dig-less (taken_of cs fs) (turned_of cs fs) k)

-- ---- 21 to 27

-- 24 comes behind 21 and 22, and 26 behind these three
late : (a b c d e f : Number) (oa ob oc od od' oe of of' : Option ℕ) (rest : List Check) → (oa ≡ none → ob ≡ none → od' ≡ od)
    → (oa ≡ none → ob ≡ none → od ≡ none → of' ≡ of)
    → first_of (check a oa ∷ check b ob ∷ check c oc ∷ check d od' ∷ check e oe ∷ check f of' ∷ rest)
    ≡ first_of (check a oa ∷ check b ob ∷ check c oc ∷ check d od ∷ check e oe ∷ check f of ∷ rest)
unfolding first_of
late a b c d e f (some p) ob oc od od' oe of of' rest h k = refl
late a b c d e f none (some p) oc od od' oe of of' rest h k = refl
late a b c d e f none none (some p) od od' oe of of' rest h k = refl
late a b c d e f none none none (some p) od' oe of of' rest h k =
    ap (λ (x : Option ℕ). first_of (check d x ∷ check e oe ∷ check f of' ∷ rest)) (h refl refl)
late a b c d e f none none none none od' oe of of' rest h k =
    λ i. first_of (check d (h refl refl i) ∷ check e oe ∷ check f (k refl refl refl i) ∷ rest)

-- an edge is run once each way, whichever way all are turned
direction-round : (taken s t : List Bool) → TurnedRound taken s t → (x : Tables) → direction x taken s ≡ direction x taken t
unfolding direction
direction-round taken s t o x =
    λ i. lowest (λ e. not (once_opposite (get_or x.masks e []) (get_or x.ups e []) taken s t o i)) (length x.masks)

-- ---- 21 to 27, by tables that differ in the parts of six volumes alone

module _ (t u : Tables) (masks : u.masks ≡ t.masks) (ups : u.ups ≡ t.ups) (clash : u.clashes ≡ t.clashes) (n : ℕ) (l m : Listed)
    (numbers : m.numbers ≡ l.numbers) (taken : m.taken ≡ l.taken) where
  -- two lists of the same candidates, of which 24 says the same and, where it passes, 26
  faces_alike : (not_candidate n l.numbers ≡ none → face_twice l.numbers ≡ none
      → direction t l.taken m.turned ≡ direction t l.taken l.turned)
      → (not_candidate n l.numbers ≡ none → face_twice l.numbers ≡ none → direction t l.taken l.turned ≡ none
      → above (six_from 0 u.sixes l.taken m.turned) ≡ above (six_from 0 t.sixes l.taken l.turned))
      → first_of (face_checks u n m) ≡ first_of (face_checks t n l)
  unfolding face_checks edge_count direction pieces inward clashes faces_from
  faces_alike ways six =
      (λ i. first_of (face_checks (record { masks = masks i; ups = ups i; clashes = clash i; sixes = u.sixes }) n
      (record { numbers = numbers i; taken = taken i; turned = m.turned })))
      ∙ late No.NotCandidate No.FaceTwice No.EdgeCount No.Direction No.Pieces No.Inward (not_candidate n l.numbers)
      (face_twice l.numbers)
      (edge_count t l.taken) (direction t l.taken l.turned) (direction t l.taken m.turned) (pieces t l.numbers l.taken)
      (inward t l.taken l.turned) (offends (not (above (six_from 0 u.sixes l.taken m.turned))) 0)
      (check No.Clash (clashes t l.numbers l.taken) ∷ []) ways
      (λ a b c. ap (λ (z : Bool). offends (not z) 0) (six a b c))

  -- the one with every face turned round: six volumes, where 24 passes, are above zero just where the negatives of these are
  pub faces-round : (not_candidate n l.numbers ≡ none → face_twice l.numbers ≡ none → TurnedRound l.taken m.turned l.turned)
      → (direction t l.taken l.turned ≡ none
      → above (neg_ℤ (six_from 0 u.sixes l.taken l.turned)) ≡ above (six_from 0 t.sixes l.taken l.turned))
      → first_of (face_checks u n m) ≡ first_of (face_checks t n l)
  faces-round o six =
      faces_alike (λ a b. direction-round l.taken m.turned l.turned (o a b) t)
      (λ a b c. ap above (six_opposite l.taken m.turned l.turned (o a b) 0 u.sixes) ∙ six c)

-- one list
pub faces_kept : (t u : Tables) → u.masks ≡ t.masks → u.ups ≡ t.ups → u.clashes ≡ t.clashes → (n : ℕ) (l : Listed)
    → (direction t l.taken l.turned ≡ none
    → above (six_from 0 u.sixes l.taken l.turned) ≡ above (six_from 0 t.sixes l.taken l.turned))
    → first_of (face_checks u n l) ≡ first_of (face_checks t n l)
faces_kept t u masks ups clash n l six = faces_alike t u masks ups clash n l l refl refl (λ a b. refl) (λ a b c. six c)

-- such are those that are a negative multiple
pub above_back : (c : ℕ) (z : ℤ) → above (neg_ℤ (negsuc c *ℤ z)) ≡ above z
unfolding above
above_back c (pos zero) = ap above (neg_ℤ-neg_ℤ (pos (suc c * 0))) ∙ ap (ltb 0) (mul-zero (suc c))
above_back c (pos (suc n)) =
    ap above (neg_ℤ-neg_ℤ (pos (suc c * suc n))) ∙ lt-ltb 0 (suc c * suc n) (mul-pos (omega arith) (omega arith)) ∙ sym
    (lt-ltb 0 (suc n) (omega arith))
above_back c (negsuc n) = low (suc c * suc n)
  where
    low : (k : ℕ) → lt_z (pos 0) (neg_ℤ (pos k)) ≡ false
    low zero = refl
    low (suc k) = refl

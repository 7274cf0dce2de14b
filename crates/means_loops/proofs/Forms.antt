-- The normal form of a face: it is the face itself, from another start or the other way round, and two faces have one just where they
-- are one ring, one way or the other.
use mathlib.Core.Path.{◌≡◌, refl, sym, ap, ap₂, subst, ◌∙◌}
use mathlib.Core.Bool.{Bool, true, false, not, cond}
use mathlib.Core.Logic.{◌⊎◌, inl, inr, ⊎_elim}
use mathlib.Core.List.{List, [], ◌∷◌, ◌++◌, Memᴰ}
use Prim.Native.Nat.{ℕ, zero, suc, ◌+◌, ◌-◌, ◌≤◌, ◌<◌}
use native.Mathlib.Omega.{arith}
use native.Mathlib.Decide.{dec_lt}
use lib.Dec.{ltb}
use lib.ListN.{length, get_or, take, drop, length-append, length-drop, get_or-append}
use lib.Seq.{get_or-append-add}
use borrow.Author.Tests.{lt-ltb, le-ltb, ltb-true, ltb-false}
use Rattle.paper.specs.Loops.{flipped}
use Rattle.paper.specs.Verdict.{lowest_at, from_place, from_lowest, onward, normal_form}
use Rattle.means_solid.specs.Proper.{Different}
use Rattle.means_solid.specs.Named.{SameRing}
use Rattle.means_loops.proofs.Rings.{parts, same_sym, same_trans, same_length, flip-flip, flip_length, flip-at}
use Rattle.means_loops.proofs.Rings.{flip-same}
use Rattle.means_loops.proofs.Lowest.{mem_at, mem_index, lowest-below, lowest_le, LowFirst, ring_low, same_low, flip_low}
use Rattle.means_loops.proofs.Lowest.{normal_on, normal_back}

-- ---- of any face with different corners

pub different_same : {f g : List ℕ} → Different f → SameRing f g → Different g
different_same {f} {g} d s = let p = parts s in go p.front p.back p.before p.after
  where
    -- a place of b ++ a is a place of a ++ b
    to : (a b : List ℕ) (i : ℕ) → i < length (b ++ a) → (j : ℕ) × (j < length (a ++ b)) × (get_or (a ++ b) j 0 ≡ get_or (b ++ a) i 0)
        × (((i < length b) × (j ≡ length a + i)) ⊎ ((length b ≤ i) × (j ≡ i - length b)))
    to a b i h = by (dec_lt i (length b))
      where
        by : Dec (i < length b) → (j : ℕ) × (j < length (a ++ b)) × (get_or (a ++ b) j 0 ≡ get_or (b ++ a) i 0)
            × (((i < length b) × (j ≡ length a + i)) ⊎ ((length b ≤ i) × (j ≡ i - length b)))
        by (yes l) =
            (length a + i, omega (arith, length-append a b), get_or-append-add a b i 0 ∙ sym (get_or-append b a 0 i l), inl (l, refl))
        by (no l) =
            let m = length-append b a in
            let k : i - length b < length a = omega arith in
            let e : i ≡ length b + (i - length b) = omega arith in (
              i - length b,
              omega (arith, length-append a b),
              get_or-append a b 0 (i - length b) k ∙ sym (ap (λ (n : ℕ). get_or (b ++ a) n 0) e ∙ get_or-append-add b a (i - length b) 0),
              inr (omega arith, refl),
            )

    -- and it is that of no other
    back : (a b : List ℕ) (i k : ℕ) → i < length (b ++ a) → k < length (b ++ a) → (j l : ℕ) → j ≡ l
        → (((i < length b) × (j ≡ length a + i)) ⊎ ((length b ≤ i) × (j ≡ i - length b)))
        → (((k < length b) × (l ≡ length a + k)) ⊎ ((length b ≤ k) × (l ≡ k - length b))) → i ≡ k
    back a b i k hi hk j l e (inl (p, q)) (inl (r, s)) = omega arith
    back a b i k hi hk j l e (inl (p, q)) (inr (r, s)) = absurd (omega (arith, length-append b a))
    back a b i k hi hk j l e (inr (p, q)) (inl (r, s)) = absurd (omega (arith, length-append b a))
    back a b i k hi hk j l e (inr (p, q)) (inr (r, s)) = omega arith

    go : (a b : List ℕ) → f ≡ a ++ b → g ≡ b ++ a → Different g
    go a b p q = subst Different (sym q) (λ i k hi hk e.
        let u = to a b i hi in
        let w = to a b k hk in
        let dd : Different (a ++ b) = subst Different p d in
        back a b i k hi hk u.0 w.0 (dd u.0 w.0 u.1 w.1 (u.2 ∙ e ∙ sym w.2)) u.3 w.3)

-- its lowest corner stands first, and below all others
first_low : (f : List ℕ) (i : ℕ) → i < length f → get_or (from_lowest f) 0 0 ≤ get_or f i 0
unfolding from_lowest from_place
first_low f i h =
    let m = lowest-below f (length f) (omega arith) in
    let e : lowest_at f (length f) + 0 ≡ lowest_at f (length f) = omega arith in
    let d = length-drop (lowest_at f (length f)) f in
    let q : get_or (drop (lowest_at f (length f)) f ++ take (lowest_at f (length f)) f) 0 0 ≡ get_or f (lowest_at f (length f)) 0
    = get_or-append (drop (lowest_at f (length f)) f) (take (lowest_at f (length f)) f) 0 0 (omega arith)
    ∙ start f (lowest_at f (length f)) in
    omega (arith, lowest_le f (length f) i h)
  where
    start : (l : List ℕ) (n : ℕ) → get_or (drop n l) 0 0 ≡ get_or l n 0
    start [] zero = refl
    start [] (suc n) = refl
    start (x ∷ l) zero = refl
    start (x ∷ l) (suc n) = start l n

pub low_first : (f : List ℕ) → Different f → LowFirst (from_lowest f)
low_first f d i h k =
    let dd : Different (from_lowest f) = different_same d (same_low f) in
    let n = same_length (same_low f) in
    let ne : get_or (from_lowest f) 0 0 ≡ get_or (from_lowest f) i 0 → ⊥ = λ e. absurd (omega (arith, dd 0 i (omega arith) k e)) in
    let p = parts (same_sym (same_low f)) in
    let w = find (from_lowest f) f p.front p.back p.before p.after i k in
    omega (arith, first_low f w.0 w.1, w.2, ne)
  where
    find : (g f a b : List ℕ) → g ≡ a ++ b → f ≡ b ++ a → (i : ℕ) → i < length g → (j : ℕ) × (j < length f) × (get_or f j 0 ≡ get_or g i 0)
    find g f a b p q i h =
        let m : Memᴰ (get_or g i 0) (a ++ b) = subst (λ (l : List ℕ). Memᴰ (get_or g i 0) l) p (mem_at g i h) in
        let n : Memᴰ (get_or g i 0) (b ++ a) = ⊎_elim (λ z. mathlib.Core.List.Memᴰ.append_right b z) (λ z. mathlib.Core.List.Memᴰ.append_left a z)
        (mathlib.Core.List.Memᴰ.append_cases a m) in
        mem_index (get_or g i 0) f (subst (λ (l : List ℕ). Memᴰ (get_or g i 0) l) (sym q) n)

-- two faces with different corners have one normal form just where they are one ring, one way or the other
pub form-same : (f g : List ℕ) → normal_form f ≡ normal_form g → SameRing f g ⊎ SameRing (flipped f) g
form-same f g e = go (onward f) (onward g) refl refl
  where
    flips : {h : List ℕ} → SameRing (flipped (normal_form h)) h → SameRing (normal_form h) (flipped h)
    flips {h} s = subst (λ (l : List ℕ). SameRing l (flipped h)) (flip-flip (normal_form h)) (flip-same s)

    go : (b c : Bool) → onward f ≡ b → onward g ≡ c → SameRing f g ⊎ SameRing (flipped f) g
    go true true p q = inl (same_trans (same_sym (normal_on f p)) (subst (λ (l : List ℕ). SameRing l g) (sym e) (normal_on g q)))
    go true false p q =
        inr (same_trans (flip-same (same_sym (normal_on f p))) (subst (λ (l : List ℕ). SameRing (flipped l) g) (sym e) (normal_back g q)))
    go false true p q =
        inr (same_trans (same_sym (flips (normal_back f p))) (subst (λ (l : List ℕ). SameRing l g) (sym e) (normal_on g q)))
    go false false p q =
        inl (same_trans (same_sym (normal_back f p)) (subst (λ (l : List ℕ). SameRing (flipped l) g) (sym e) (normal_back g q)))

same_low_form : (f g : List ℕ) → from_lowest f ≡ from_lowest g → normal_form f ≡ normal_form g
unfolding normal_form onward
same_low_form f g e = ap (λ (r : List ℕ). cond (ltb (get_or r 1 0) (get_or r (length r - 1) 0)) r (flipped r)) e

pub same-form : (f g : List ℕ) → Different f → SameRing f g → normal_form f ≡ normal_form g
same-form f g d s = same_low_form f g (sym (ring_low (from_lowest f) g (low_first f d) (same_trans (same_sym (same_low f)) s)))

-- a ring of one or two corners is the same both ways
short_flip : (r : List ℕ) → length r < 3 → flipped r ≡ r
unfolding flipped
short_flip [] h = refl
short_flip (x ∷ []) h = refl
short_flip (x ∷ (y ∷ [])) h = refl
short_flip (x ∷ (y ∷ (z ∷ l))) h = absurd (omega arith)

abbrev form_of : List ℕ → List ℕ
form_of r = cond (ltb (get_or r 1 0) (get_or r (length r - 1) 0)) r (flipped r)

normal_of : (f : List ℕ) → normal_form f ≡ form_of (from_lowest f)
unfolding normal_form onward
normal_of f = refl

flip-form : (r : List ℕ) → Different r → form_of (flipped r) ≡ form_of r
flip-form r d = go (dec_lt (length r) 3)
  where
    at_last : 3 ≤ length r → get_or (flipped r) (length (flipped r) - 1) 0 ≡ get_or r 1 0
    at_last n =
        let m = flip_length r in
        let z : length (flipped r) - 1 ≡ length r - 1 = omega arith in
        let e : length r - (length r - 1) ≡ 1 = omega arith in
        ap (λ (i : ℕ). get_or (flipped r) i 0) z ∙ flip-at r (length r - 1) (omega arith) (omega arith) ∙ ap (λ (i : ℕ). get_or r i 0) e

    at_one : 3 ≤ length r → get_or (flipped r) 1 0 ≡ get_or r (length r - 1) 0
    at_one n = flip-at r 1 (omega arith) (omega arith)

    pick : (b c : Bool) → b ≡ not c → cond b (flipped r) (flipped (flipped r)) ≡ cond c r (flipped r)
    pick true true e = let z : ◌≡◌ {A = ℕ} 0 1 = cc in absurd (omega arith)
    pick true false e = refl
    pick false true e = flip-flip r
    pick false false e = let z : ◌≡◌ {A = ℕ} 0 1 = cc in absurd (omega arith)

    turn : 3 ≤ length r → ltb (get_or r (length r - 1) 0) (get_or r 1 0) ≡ not (ltb (get_or r 1 0) (get_or r (length r - 1) 0))
    turn n = by (ltb (get_or r 1 0) (get_or r (length r - 1) 0)) refl
      where
        by : (b : Bool) → ltb (get_or r 1 0) (get_or r (length r - 1) 0) ≡ b → ltb (get_or r (length r - 1) 0) (get_or r 1 0) ≡ not b
        by true e =
            le-ltb (get_or r (length r - 1) 0) (get_or r 1 0) (let q = ltb-true (get_or r 1 0) (get_or r (length r - 1) 0) e in omega arith)
        by false e =
            let q = ltb-false (get_or r 1 0) (get_or r (length r - 1) 0) e in
            let ne : get_or r 1 0 ≡ get_or r (length r - 1) 0
            → ⊥ = λ z. absurd (omega (arith, d 1 (length r - 1) (omega arith) (omega arith) z)) in
            lt-ltb (get_or r (length r - 1) 0) (get_or r 1 0) (omega arith)

    go : Dec (length r < 3) → form_of (flipped r) ≡ form_of r
    go (yes h) = ap form_of (short_flip r h)
    go (no h) =
        let n : 3 ≤ length r = omega arith in
        pick (ltb (get_or (flipped r) 1 0) (get_or (flipped r) (length (flipped r) - 1) 0)) (ltb (get_or r 1 0) (get_or r (length r - 1) 0))
        (ap₂ ltb (at_one n) (at_last n) ∙ turn n)

pub flip-same-form : (f g : List ℕ) → Different f → SameRing (flipped f) g → normal_form f ≡ normal_form g
flip-same-form f g d s =
    let e : from_lowest g ≡ flipped (from_lowest f) = ring_low (flipped (from_lowest f)) g (flip_low (from_lowest f) (low_first f d))
    (same_trans (flip-same (same_sym (same_low f))) s) in
    normal_of f ∙ sym (flip-form (from_lowest f) (different_same d (same_low f))) ∙ ap form_of (sym e) ∙ sym (normal_of g)

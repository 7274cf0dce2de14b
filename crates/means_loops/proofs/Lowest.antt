-- A face from its lowest corner on, and its normal form.
use mathlib.Core.Path.{◌≡◌, refl, sym, ap, subst, ◌∙◌}
use mathlib.Core.Bool.{Bool, true, false, cond}
use mathlib.Core.Logic.{⊎_elim}
use mathlib.Core.List.Memᴰ
use mathlib.Core.List.{List, [], ◌∷◌, ◌++◌, append-nil, Memᴰ}
use Prim.Native.Nat.{ℕ, zero, suc, ◌-◌, ◌≤◌, ◌<◌}
use native.Mathlib.Omega.{arith}
use native.Mathlib.Nat.{not-suc-le-zero, le_of_suc-le-suc}
use native.Mathlib.Decide.{dec_lt, ℕ_discrete}
use lib.Dec.{ltb}
use lib.ListN.{length, get_or, length-append}
use lib.Seq.{get_or-append_seam, drop-append_seam, take-append_seam}
use borrow.Author.Tests.{lt-ltb, le-ltb}
use Rattle.paper.specs.Loops.{flipped}
use Rattle.paper.specs.Verdict.{lowest_at, from_place, from_lowest, onward, normal_form}
use Rattle.means_loops.specs.Shape.{Normal}
use Rattle.means_solid.specs.Named.{SameRing}
use Rattle.means_loops.proofs.Rings.{parts, same_sym, flip-flip, flip_length, flip-first, flip-at}

-- ---- members and places

pub mem_at : (l : List ℕ) (i : ℕ) → i < length l → Memᴰ (get_or l i 0) l
mem_at [] i h = absurd (not-suc-le-zero h)
mem_at (x ∷ l) zero h = Memᴰ.head refl
mem_at (x ∷ l) (suc i) h = Memᴰ.tail (mem_at l i (le_of_suc-le-suc h))

pub mem_index : (y : ℕ) (l : List ℕ) → Memᴰ y l → (i : ℕ) × (i < length l) × (get_or l i 0 ≡ y)
mem_index y [] m = absurd (Memᴰ.not-nil m)
mem_index y (x ∷ l) m =
    ⊎_elim (λ e. (0, omega arith, sym e)) (λ k. let r = mem_index y l k in (suc r.0, omega arith, r.2)) (Memᴰ.cases_cons m)

-- ---- the lowest corner

pub lowest-below : (c : List ℕ) (k : ℕ) → 0 < k → lowest_at c k < k
unfolding lowest_at
lowest-below c zero h = absurd (not-suc-le-zero h)
lowest-below c (suc k) h = go (dec_lt (get_or c k 0) (get_or c (lowest_at c k) 0)) (ℕ_discrete k 0) (λ p. lowest-below c k p)
  where
    at_zero : (n : ℕ) → n ≡ 0 → lowest_at c n ≡ 0
    at_zero n e = ap (lowest_at c) e

    go : Dec (get_or c k 0 < get_or c (lowest_at c k) 0) → Dec (k ≡ 0) → (0 < k → lowest_at c k < k)
        → cond (ltb (get_or c k 0) (get_or c (lowest_at c k) 0)) k (lowest_at c k) < suc k
    go (yes p) z r = rw (lt-ltb (get_or c k 0) (get_or c (lowest_at c k) 0) p) (omega arith)
    go (no p) (yes z) r = rw (le-ltb (get_or c k 0) (get_or c (lowest_at c k) 0) (omega arith)) (omega (arith, at_zero k z))
    go (no p) (no z) r = rw (le-ltb (get_or c k 0) (get_or c (lowest_at c k) 0) (omega arith)) (omega (arith, r (omega arith)))

pub lowest_le : (c : List ℕ) (k i : ℕ) → i < k → get_or c (lowest_at c k) 0 ≤ get_or c i 0
unfolding lowest_at
lowest_le c zero i h = absurd (not-suc-le-zero h)
lowest_le c (suc k) i h = go (dec_lt (get_or c k 0) (get_or c (lowest_at c k) 0)) (ℕ_discrete i k) (λ p. lowest_le c k i p)
  where
    go : Dec (get_or c k 0 < get_or c (lowest_at c k) 0) → Dec (i ≡ k) → (i < k → get_or c (lowest_at c k) 0 ≤ get_or c i 0)
        → get_or c (cond (ltb (get_or c k 0) (get_or c (lowest_at c k) 0)) k (lowest_at c k)) 0 ≤ get_or c i 0
    go (yes p) (yes e) r = rw (lt-ltb (get_or c k 0) (get_or c (lowest_at c k) 0) p, e) (omega arith)
    go (yes p) (no e) r = rw (lt-ltb (get_or c k 0) (get_or c (lowest_at c k) 0) p) (omega (arith, r (omega arith)))
    go (no p) (yes e) r = rw (le-ltb (get_or c k 0) (get_or c (lowest_at c k) 0) (omega arith), e) (omega arith)
    go (no p) (no e) r = rw (le-ltb (get_or c k 0) (get_or c (lowest_at c k) 0) (omega arith)) (r (omega arith))

-- what stands at another place than x
elsewhere : (a : List ℕ) (x : ℕ) (b : List ℕ) (j : ℕ) → j < length (a ++ x ∷ b) → (j ≡ length a → ⊥)
    → Memᴰ (get_or (a ++ x ∷ b) j 0) (b ++ a)
elsewhere [] x b zero h n = absurd (n refl)
elsewhere [] x b (suc j) h n = Memᴰ.append_left [] (mem_at b j (le_of_suc-le-suc h))
elsewhere (z ∷ a) x b zero h n = Memᴰ.append_right b (Memᴰ.head refl)
elsewhere (z ∷ a) x b (suc j) h n = ⊎_elim (λ m. Memᴰ.append_left (z ∷ a) m) (λ m. Memᴰ.append_right b (Memᴰ.tail m))
    (Memᴰ.append_cases b (elsewhere a x b j (le_of_suc-le-suc h) (λ e. n (ap suc e))))

lowest_place : (a : List ℕ) (x : ℕ) (b : List ℕ) → ((y : ℕ) → Memᴰ y (b ++ a) → x < y)
    → lowest_at (a ++ x ∷ b) (length (a ++ x ∷ b)) ≡ length a
lowest_place a x b low = go (ℕ_discrete (lowest_at (a ++ x ∷ b) (length (a ++ x ∷ b))) (length a))
  where
    go : Dec (lowest_at (a ++ x ∷ b) (length (a ++ x ∷ b)) ≡ length a) → lowest_at (a ++ x ∷ b) (length (a ++ x ∷ b)) ≡ length a
    go (yes e) = e
    go (no n) =
        let c = a ++ x ∷ b in
        let l = length-append a (x ∷ b) in
        let j = lowest_at c (length c) in
        let p : j < length c = lowest-below c (length c) (omega arith) in
        let q : get_or c j 0 ≤ get_or c (length a) 0 = lowest_le c (length c) (length a) (omega arith) in
        let r : get_or c (length a) 0 ≡ x = get_or-append_seam a x b 0 in
        let s : x < get_or c j 0 = low (get_or c j 0) (elsewhere a x b j p n) in
        absurd (omega arith)

turned_place : (a : List ℕ) (x : ℕ) (b : List ℕ) → from_place (a ++ x ∷ b) (length a) ≡ x ∷ (b ++ a)
unfolding from_place
turned_place a x b = rw (drop-append_seam a (x ∷ b), take-append_seam a (x ∷ b))

-- ---- a ring from its lowest corner on

-- the first corner is below all others
abbrev pub LowFirst : List ℕ → Type 0
LowFirst g = (i : ℕ) → 0 < i → i < length g → get_or g 0 0 < get_or g i 0

place_low : (a : List ℕ) (x : ℕ) (b : List ℕ) → LowFirst (x ∷ (b ++ a)) → from_lowest (a ++ x ∷ b) ≡ x ∷ (b ++ a)
unfolding from_lowest
place_low a x b low =
    ap (from_place (a ++ x ∷ b))
    (lowest_place a x b (λ y m. let r = mem_index y (b ++ a) m in
    let q : x < get_or (b ++ a) r.0 0 = low (suc r.0) (omega arith) (let h = r.1 in omega arith) in let e = r.2 in omega arith))
    ∙ turned_place a x b

nil_low : from_lowest [] ≡ []
unfolding from_lowest from_place lowest_at
nil_low = refl

-- whatever start a face has, from its lowest corner on it is the ring from there
pub ring_low : (g f : List ℕ) → LowFirst g → SameRing g f → from_lowest f ≡ g
ring_low g f low s = let p = parts s in go g f p.front p.back low p.before p.after
  where
    go : (g f a b : List ℕ) → LowFirst g → g ≡ a ++ b → f ≡ b ++ a → from_lowest f ≡ g
    go g f [] [] low e q = ap from_lowest q ∙ nil_low ∙ sym e
    go g f [] (x ∷ b) low e q =
        let w : g ≡ x ∷ (b ++ []) = e ∙ ap (λ (l : List ℕ). x ∷ l) (sym (append-nil b)) in
        ap from_lowest (q ∙ append-nil (x ∷ b)) ∙ place_low [] x b (subst LowFirst w low) ∙ sym w
    go g f (x ∷ a) b low e q = ap from_lowest q ∙ place_low b x a (subst LowFirst e low) ∙ sym e

-- and it is the same ring
pub same_low : (f : List ℕ) → SameRing f (from_lowest f)
unfolding from_lowest from_place
same_low f = record { at = lowest_at f (length f); turns = refl }

pub flip_low : (g : List ℕ) → LowFirst g → LowFirst (flipped g)
flip_low g low i h k =
    let n = flip_length g in
    let l : i < length g = omega arith in
    let q : get_or g 0 0 < get_or g (length g - i) 0 = low (length g - i) (omega arith) (omega arith) in
    omega (arith, flip-first g, flip-at g i h l)

-- ---- the normal form

onward_is : (f : List ℕ) → onward f ≡ ltb (get_or (from_lowest f) 1 0) (get_or (from_lowest f) (length (from_lowest f) - 1) 0)
unfolding onward
onward_is f = refl

normal_is : (f : List ℕ) → normal_form f ≡ cond (onward f) (from_lowest f) (flipped (from_lowest f))
unfolding normal_form
normal_is f = refl

-- a face that is run as its normal form is, is that ring; another is that ring the other way round
pub normal_on : (f : List ℕ) → onward f ≡ true → SameRing (normal_form f) f
normal_on f e =
    subst (λ (l : List ℕ). SameRing l f) (sym (normal_is f ∙ ap (λ (b : Bool). cond b (from_lowest f) (flipped (from_lowest f))) e))
    (same_sym (same_low f))

pub normal_back : (f : List ℕ) → onward f ≡ false → SameRing (flipped (normal_form f)) f
normal_back f e =
    let q : flipped (normal_form f) ≡ from_lowest f = ap flipped
    (normal_is f ∙ ap (λ (b : Bool). cond b (from_lowest f) (flipped (from_lowest f))) e) ∙ flip-flip (from_lowest f) in
    subst (λ (l : List ℕ). SameRing l f) (sym q) (same_sym (same_low f))

-- what has a loop's ring has the loop as its normal form, and is run its way; the other way round it is not
module _ (c : List ℕ) (h : Normal c) (f : List ℕ) where
  module _ (s : SameRing c f) where
    low_of : from_lowest f ≡ c
    low_of = ring_low c f h.lowest s

    pub on_onward : onward f ≡ true
    on_onward =
        onward_is f ∙ ap (λ (l : List ℕ). ltb (get_or l 1 0) (get_or l (length l - 1) 0)) low_of
        ∙ lt-ltb (get_or c 1 0) (get_or c (length c - 1) 0) h.direction

    pub on_normal : normal_form f ≡ c
    on_normal = normal_is f ∙ ap (λ (b : Bool). cond b (from_lowest f) (flipped (from_lowest f))) on_onward ∙ low_of

  module _ (s : SameRing (flipped c) f) where
    low_back : from_lowest f ≡ flipped c
    low_back = ring_low (flipped c) f (flip_low c h.lowest) s

    pub back_onward : onward f ≡ false
    back_onward =
        let n = h.three in
        let m = flip_length c in
        let p = flip-at c 1 (omega arith) (omega arith) in
        let q = flip-at c (length c - 1) (omega arith) (omega arith) in
        let r : length c - (length c - 1) ≡ 1 = omega arith in
        let z : length (flipped c) - 1 ≡ length c - 1 = omega arith in
        let u : get_or c (length c - (length c - 1)) 0 ≡ get_or c 1 0 = ap (λ (i : ℕ). get_or c i 0) r in
        let w : get_or (flipped c) (length (flipped c) - 1) 0 ≡ get_or (flipped c) (length c - 1) 0 = ap (λ (i : ℕ). get_or (flipped c) i 0)
        z in
        let dir = h.direction in
        onward_is f ∙ ap (λ (l : List ℕ). ltb (get_or l 1 0) (get_or l (length l - 1) 0)) low_back
        ∙ le-ltb (get_or (flipped c) 1 0) (get_or (flipped c) (length (flipped c) - 1) 0) (omega arith)

    pub back_normal : normal_form f ≡ c
    back_normal =
        normal_is f ∙ ap (λ (b : Bool). cond b (from_lowest f) (flipped (from_lowest f))) back_onward ∙ ap flipped low_back ∙ flip-flip c

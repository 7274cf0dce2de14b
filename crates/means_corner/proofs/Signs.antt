-- What an equation leaves of the signs of its terms; signs that a test tells.
use mathlib.Core.Path.{◌≡◌, refl, sym, ◌∙◌, ap}
use mathlib.Core.Bool.{Bool, true, false, not, ◌&&◌, ◌||◌, cond, true≢false}
use mathlib.Core.List.{List, [], ◌∷◌}
use Prim.Native.Nat.{ℕ, zero, suc}
use native.Mathlib.Omega.{arith}
use lib.IntN.{ℤ, pos, negsuc, neg_ℤ, ◌+ℤ◌, ◌-ℤ◌, ◌*ℤ◌}
use lib.ListN.{length}
use Rattle.lists.proofs.Truth.{or-none, and_left, and_right}
use Rattle.exact.specs.Signs.{Sign3, below, level, above, sign, negated_sign, product}
use Rattle.exact.proofs.Ring.{var, ◌⊕◌, ◌⊖◌, ◌⊗◌, neg, ring}
use Rattle.exact.proofs.Signs.{sign-neg, sign_mul, above_lt}
use Rattle.exact.proofs.Order.{sum-zero}
use Rattle.paper.specs.Points as paper
use Rattle.means_area.specs.Flats.{Nn}
use Rattle.means_area.proofs.Flats.Signs.{up_nn}
use Rattle.means_inside.proofs.Beams.{above_is, above_no}

abbrev pub up : Sign3 → Bool
up below = false
up level = false
up above = true

abbrev pub down : Sign3 → Bool
down s = up (negated_sign s)

-- the sign of a number that is not 0, by its test
abbrev pub either : Bool → Sign3
either true = above
either false = below

above_pos : (n : ℕ) → paper.above (pos (suc n)) ≡ true
above_pos n = above_is (pos (suc n)) (above_lt (pos (suc n)) refl)

pub above_up : (z : ℤ) → paper.above z ≡ up (sign z)
unfolding paper.above
above_up (pos zero) = refl
above_up (pos (suc n)) = above_pos n
above_up (negsuc n) = refl

pub low_sign : (z : ℤ) → Nn (neg_ℤ z) → up (sign z) ≡ false
low_sign z h = sym (above_up z) ∙ above_no z h

pub sign-is : (z : ℤ) → (z ≡ pos 0 → ⊥) → sign z ≡ either (paper.above z)
unfolding paper.above
sign-is (pos zero) h = absurd (h refl)
sign-is (pos (suc n)) h = ap either (sym (above_pos n))
sign-is (negsuc n) h = refl

pub above-neg : (z : ℤ) → (z ≡ pos 0 → ⊥) → paper.above (neg_ℤ z) ≡ not (paper.above z)
unfolding paper.above
above-neg (pos zero) h = absurd (h refl)
above-neg (pos (suc n)) h = ap not (sym (above_pos n))
above-neg (negsuc n) h = above_pos n

-- ---- x + y + z can be 0, for numbers with these signs: where one is above 0, one is below it, and the other way round

abbrev pub balanced : Sign3 → Sign3 → Sign3 → Bool
balanced x y z = cond (up x || (up y || up z)) (down x || (down y || down z)) (not (down x || (down y || down z)))

not_up : (z : ℤ) → up (sign z) ≡ false → Nn (neg_ℤ z)
not_up (pos zero) e = record { le = tt }
not_up (pos (suc n)) e = absurd (true≢false e)
not_up (negsuc n) e = up_nn (above_lt (pos (suc n)) refl)

pub not_down : (z : ℤ) → down (sign z) ≡ false → Nn z
not_down (pos zero) e = record { le = tt }
not_down (pos (suc n)) e = up_nn (above_lt (pos (suc n)) refl)
not_down (negsuc n) e = absurd (true≢false e)

neg-zero : (z : ℤ) → neg_ℤ z ≡ pos 0 → z ≡ pos 0
neg-zero z e = ring (z ∷ []) (var 0) (neg (neg (var 0))) tt ∙ ap neg_ℤ e

pub balance : (x y z : ℤ) → x +ℤ y +ℤ z ≡ pos 0 → balanced (sign x) (sign y) (sign z) ≡ true
balance x y z e =
    go (up (sign x) || (up (sign y) || up (sign z))) (down (sign x) || (down (sign y) || down (sign z))) refl refl
  where
    go : (u w : Bool) → (up (sign x) || (up (sign y) || up (sign z))) ≡ u → (down (sign x) || (down (sign y) || down (sign z))) ≡ w
        → cond u w (not w) ≡ true
    go true true p q = refl
    go false false p q = refl
    go true false p q =
        let a = or-none (down (sign x)) (down (sign y) || down (sign z)) q in
        let b = or-none (down (sign y)) (down (sign z)) a.1 in
        let s = sum-zero x y z (not_down x a.0) (not_down y b.0) (not_down z b.1) e in
        absurd (true≢false (sym p ∙ (λ i. up (sign (s.0 i)) || (up (sign (s.1 i)) || up (sign (s.2 i))))))
    go false true p q =
        let a = or-none (up (sign x)) (up (sign y) || up (sign z)) p in
        let b = or-none (up (sign y)) (up (sign z)) a.1 in
        let s = sum-zero (neg_ℤ x) (neg_ℤ y) (neg_ℤ z) (not_up x a.0) (not_up y b.0) (not_up z b.1)
        (ring (x ∷ y ∷ z ∷ []) (neg (var 0) ⊕ neg (var 1) ⊕ neg (var 2)) (neg (var 0 ⊕ var 1 ⊕ var 2)) tt ∙ ap neg_ℤ e) in
        let ex = neg-zero x s.0 in
        let ey = neg-zero y s.1 in
        let ez = neg-zero z s.2 in
        absurd (true≢false (sym q ∙ (λ i. down (sign (ex i)) || (down (sign (ey i)) || down (sign (ez i))))))

-- p q - r s + t u = 0
abbrev pub may : Sign3 → Sign3 → Sign3 → Sign3 → Sign3 → Sign3 → Bool
may p q r s t u = balanced (product p q) (negated_sign (product r s)) (product t u)

pub three : (p q r s t u : ℤ) → p *ℤ q -ℤ r *ℤ s +ℤ t *ℤ u ≡ pos 0 → may (sign p) (sign q) (sign r) (sign s) (sign t) (sign u) ≡ true
three p q r s t u e =
    (λ i. balanced (sym (sign_mul p q) i) (negated_sign (sym (sign_mul r s) i)) (sym (sign_mul t u) i))
    ∙ (λ i. balanced (sign (p *ℤ q)) (sym (sign-neg (r *ℤ s)) i) (sign (t *ℤ u)))
    ∙ balance (p *ℤ q) (neg_ℤ (r *ℤ s)) (t *ℤ u)
    (ring (p ∷ q ∷ r ∷ s ∷ t ∷ u ∷ []) (var 0 ⊗ var 1 ⊕ neg (var 2 ⊗ var 3) ⊕ var 4 ⊗ var 5)
    (var 0 ⊗ var 1 ⊖ var 2 ⊗ var 3 ⊕ var 4 ⊗ var 5) tt ∙ e)

-- ---- a test tried in every way: on lists of n tests, on lists of n signs

abbrev pub every : ℕ → (List Bool → Bool) → Bool
every zero f = f []
every (suc n) f = every n (λ l. f (true ∷ l)) && every n (λ l. f (false ∷ l))

abbrev pub every3 : ℕ → (List Sign3 → Bool) → Bool
every3 zero f = f []
every3 (suc n) f = every3 n (λ l. f (below ∷ l)) && (every3 n (λ l. f (level ∷ l)) && every3 n (λ l. f (above ∷ l)))

pub tried : (n : ℕ) (f : List Bool → Bool) → every n f ≡ true → (l : List Bool) → length l ≡ n → f l ≡ true
tried zero f e [] h = e
tried zero f e (b ∷ l) h = absurd (omega arith)
tried (suc n) f e [] h = absurd (omega arith)
tried (suc n) f e (true ∷ l) h =
    tried n (λ r. f (true ∷ r)) (and_left (every n (λ r. f (true ∷ r))) (every n (λ r. f (false ∷ r))) e) l (omega arith)
tried (suc n) f e (false ∷ l) h =
    tried n (λ r. f (false ∷ r)) (and_right (every n (λ r. f (true ∷ r))) (every n (λ r. f (false ∷ r))) e) l (omega arith)

pub tried3 : (n : ℕ) (f : List Sign3 → Bool) → every3 n f ≡ true → (l : List Sign3) → length l ≡ n → f l ≡ true
tried3 zero f e [] h = e
tried3 zero f e (b ∷ l) h = absurd (omega arith)
tried3 (suc n) f e [] h = absurd (omega arith)
tried3 (suc n) f e (s ∷ l) h =
    let a = every3 n (λ r. f (below ∷ r)) in
    let b = every3 n (λ r. f (level ∷ r)) in
    let c = every3 n (λ r. f (above ∷ r)) in
    go s (tried3 n (λ t. f (below ∷ t)) (and_left a (b && c) e) l (omega arith))
    (tried3 n (λ t. f (level ∷ t)) (and_left b c (and_right a (b && c) e)) l (omega arith))
    (tried3 n (λ t. f (above ∷ t)) (and_right b c (and_right a (b && c) e)) l (omega arith))
  where
    go : (s : Sign3) → f (below ∷ l) ≡ true → f (level ∷ l) ≡ true → f (above ∷ l) ≡ true → f (s ∷ l) ≡ true
    go below p q r = p
    go level p q r = q
    go above p q r = r

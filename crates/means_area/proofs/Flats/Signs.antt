-- Numbers above 0 and not below 0, with sums and products; numbers of one sign.
use mathlib.Core.Path.{◌≡◌, ap, subst}
use mathlib.Core.Logic.{◌⊎◌, inl, inr}
use mathlib.Core.List.{[], ◌∷◌}
use native.Mathlib.Omega.{arith}
use lib.IntN.{ℤ, pos, neg_ℤ, ◌+ℤ◌, ◌-ℤ◌, ◌*ℤ◌}
use lib.Signed.{◌≤ℤ◌, ◌<ℤ◌, <ℤ_irrefl}
use Rattle.exact.proofs.Ring.{var, con, ◌⊕◌, ◌⊖◌, ◌⊗◌, neg, ring}
use Rattle.exact.proofs.Linear.{le_by, lt_by, le_to, lt_to}
use Rattle.exact.proofs.Signs.{lt-or-ge, <ℤ-≤ℤ}
use Rattle.exact.proofs.Order.{sub_pos, three_ways, lt_cancel, le_cancel}
use Rattle.means_area.specs.Flats.{Up, Nn, SameSign, both, none}

pub up_is : {x y : ℤ} → x ≡ y → Up x → Up y
up_is e h = subst (λ (z : ℤ). Up z) e h

pub nn_is : {x y : ℤ} → x ≡ y → Nn x → Nn y
nn_is e h = subst (λ (z : ℤ). Nn z) e h

pub up_nn : {x : ℤ} → Up x → Nn x
up_nn h = <ℤ-≤ℤ h

pub up_add : {x y : ℤ} → Up x → Nn y → Up (x +ℤ y)
up_add {x} {y} h k =
    let ρ = x ∷ y ∷ [] in
    lt_by ρ (con (pos 0)) (var 0 ⊕ var 1) (omega (arith, lt_to ρ (con (pos 0)) (var 0) h, le_to ρ (con (pos 0)) (var 1) k))

pub nn_up : {x y : ℤ} → Nn x → Up y → Up (x +ℤ y)
nn_up {x} {y} h k =
    let ρ = x ∷ y ∷ [] in
    lt_by ρ (con (pos 0)) (var 0 ⊕ var 1) (omega (arith, le_to ρ (con (pos 0)) (var 0) h, lt_to ρ (con (pos 0)) (var 1) k))

-- a number and its negation
pub off : {x : ℤ} → Up x → Nn (neg_ℤ x) → ⊥
off {x} h k =
    let ρ = x ∷ [] in
    let a = lt_to ρ (con (pos 0)) (var 0) h in
    let b = le_to ρ (con (pos 0)) (neg (var 0)) k in
    omega (arith, a, b)

pub zero_off : {x : ℤ} → x ≡ pos 0 → Up x → ⊥
zero_off e h = <ℤ_irrefl (up_is e h)

pub which : (x : ℤ) → Up x ⊎ Nn (neg_ℤ x)
which x = go (lt-or-ge (pos 0) x)
  where
    go : Up x ⊎ (x ≤ℤ pos 0) → Up x ⊎ Nn (neg_ℤ x)
    go (inl h) = inl h
    go (inr h) = let ρ = x ∷ [] in inr (le_by ρ (con (pos 0)) (neg (var 0)) (omega (arith, le_to ρ (var 0) (con (pos 0)) h)))

pub ways : (x : ℤ) → Up x ⊎ ((x ≡ pos 0) ⊎ Up (neg_ℤ x))
ways x = go (three_ways x)
  where
    go : (x <ℤ pos 0) ⊎ ((x ≡ pos 0) ⊎ (pos 0 <ℤ x)) → Up x ⊎ ((x ≡ pos 0) ⊎ Up (neg_ℤ x))
    go (inl h) = let ρ = x ∷ [] in inr (inr (lt_by ρ (con (pos 0)) (neg (var 0)) (omega (arith, lt_to ρ (var 0) (con (pos 0)) h))))
    go (inr (inl e)) = inr (inl e)
    go (inr (inr h)) = inl h

-- above 0, where it is neither 0 nor below
pub up_else : {x : ℤ} → (x ≡ pos 0 → ⊥) → (Up (neg_ℤ x) → ⊥) → Up x
up_else {x} z n = go (ways x)
  where
    go : Up x ⊎ ((x ≡ pos 0) ⊎ Up (neg_ℤ x)) → Up x
    go (inl h) = h
    go (inr (inl e)) = absurd (z e)
    go (inr (inr h)) = absurd (n h)

-- the negation's negation
pub twice : (x : ℤ) → x ≡ neg_ℤ (neg_ℤ x)
twice x = ring (x ∷ []) (var 0) (neg (neg (var 0))) tt

-- a factor above 0 goes out
pub up_out : (k : ℤ) {x : ℤ} → Up k → Up (k *ℤ x) → Up x
up_out k {x} h l = lt_cancel k h (subst (λ (z : ℤ). z <ℤ (k *ℤ x)) (ring (k ∷ []) (con (pos 0)) (var 0 ⊗ con (pos 0)) tt) l)

pub nn_out : (k : ℤ) {x : ℤ} → Up k → Nn (k *ℤ x) → Nn x
nn_out k {x} h l = le_cancel k h (subst (λ (z : ℤ). z ≤ℤ (k *ℤ x)) (ring (k ∷ []) (con (pos 0)) (var 0 ⊗ con (pos 0)) tt) l)

-- differences
pub up_diff : {a b : ℤ} → a <ℤ b → Up (b -ℤ a)
up_diff h = sub_pos h

pub diff_up : (a b : ℤ) → Up (b -ℤ a) → a <ℤ b
diff_up a b h = let ρ = a ∷ b ∷ [] in lt_by ρ (var 0) (var 1) (omega (arith, lt_to ρ (con (pos 0)) (var 1 ⊖ var 0) h))

-- ---- one sign

pub same-flip : {a b : ℤ} → SameSign a b → SameSign b a
same-flip (both h k) = both k h
same-flip (none h k) = none k h

pub same_trans : {a b c : ℤ} → SameSign a b → SameSign b c → SameSign a c
same_trans (both h k) (both l m) = both h m
same_trans (both h k) (none l m) = absurd (off k (up_nn l))
same_trans (none h k) (both l m) = absurd (off l (up_nn k))
same_trans (none h k) (none l m) = none h m

pub same_add : {a b c : ℤ} → SameSign a c → SameSign b c → SameSign (a +ℤ b) c
same_add (both h k) (both l m) = both (up_add h (up_nn l)) k
same_add (both h k) (none l m) = absurd (off k (up_nn m))
same_add (none h k) (both l m) = absurd (off m (up_nn k))
same_add {a} {b} {c} (none h k) (none l m) =
    none (up_is (ring (a ∷ b ∷ []) (neg (var 0) ⊕ neg (var 1)) (neg (var 0 ⊕ var 1)) tt) (up_add h (up_nn l))) k

pub same_is : {a b c : ℤ} → a ≡ b → SameSign a c → SameSign b c
same_is {a} {b} {c} e s = subst (λ (z : ℤ). SameSign z c) e s

pub same_is2 : {a b c : ℤ} → b ≡ c → SameSign a b → SameSign a c
same_is2 {a} {b} {c} e s = subst (λ (z : ℤ). SameSign a z) e s

pub same_ne : {a b : ℤ} → SameSign a b → a ≡ pos 0 → ⊥
same_ne (both h k) e = zero_off e h
same_ne {a} (none h k) e = zero_off (ap neg_ℤ e) h

-- with itself, where it is not 0
pub same_self : {x : ℤ} → (x ≡ pos 0 → ⊥) → SameSign x x
same_self {x} n = go (ways x)
  where
    go : Up x ⊎ ((x ≡ pos 0) ⊎ Up (neg_ℤ x)) → SameSign x x
    go (inl h) = both h h
    go (inr (inl e)) = absurd (n e)
    go (inr (inr h)) = none h h

pub same-neg : {x y : ℤ} → SameSign x y → SameSign (neg_ℤ x) (neg_ℤ y)
same-neg {x} {y} (both h k) = none (up_is (twice x) h) (up_is (twice y) k)
same-neg (none h k) = both h k

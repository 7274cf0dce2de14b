-- Orders with sums and products, and equations that follow from others by a polynomial identity.
use mathlib.Core.Path.{◌≡◌, refl, sym, ◌∙◌, ap, subst}
use mathlib.Core.Logic.{◌⊎◌, inl, inr}
use mathlib.Core.List.{List, [], ◌∷◌}
use Prim.Native.Nat.{ℕ, ◌<◌}
use native.Mathlib.Omega.{arith}
use lib.Dec.{T}
use lib.IntN.{ℤ, pos, neg_ℤ, ◌+ℤ◌, ◌-ℤ◌, ◌*ℤ◌, zero-*ℤ, *ℤ-zero}
use lib.Signed.{◌≤ℤ◌, ◌<ℤ◌, ≤ℤ_refl, clash_ℤ}
use Rattle.exact.specs.Signs.{Sign3, below, level, above, sign, product}
use Rattle.exact.proofs.Laws.{eq_of_sub, sub_of_eq}
use Rattle.exact.proofs.Ring.{Expr, var, con, ◌⊕◌, ◌⊖◌, ◌⊗◌, neg, eval, norm, all_z, ring}
use Rattle.exact.proofs.Signs.{sign_mul, sign_above, sign_below, above_lt, below_lt, level_eq, lt-or-ge, ≤ℤ-antisym, <ℤ-≤ℤ}
use Rattle.exact.proofs.Linear.{le_by, lt_by, le_to, lt_to}

-- ---- differences

pub sub_pos : {a b : ℤ} → a <ℤ b → pos 0 <ℤ (b -ℤ a)
sub_pos {a} {b} h = let ρ = a ∷ b ∷ [] in lt_by ρ (con (pos 0)) (var 1 ⊖ var 0) (omega (arith, lt_to ρ (var 0) (var 1) h))

lt_of_sub : (a b : ℤ) → pos 0 <ℤ (b -ℤ a) → a <ℤ b
lt_of_sub a b h = let ρ = a ∷ b ∷ [] in lt_by ρ (var 0) (var 1) (omega (arith, lt_to ρ (con (pos 0)) (var 1 ⊖ var 0) h))

pub sub_nonneg : {a b : ℤ} → a ≤ℤ b → pos 0 ≤ℤ (b -ℤ a)
sub_nonneg {a} {b} h = let ρ = a ∷ b ∷ [] in le_by ρ (con (pos 0)) (var 1 ⊖ var 0) (omega (arith, le_to ρ (var 0) (var 1) h))

le_of_sub : (a b : ℤ) → pos 0 ≤ℤ (b -ℤ a) → a ≤ℤ b
le_of_sub a b h = let ρ = a ∷ b ∷ [] in le_by ρ (var 0) (var 1) (omega (arith, le_to ρ (con (pos 0)) (var 1 ⊖ var 0) h))

pub neg_lt : {a : ℤ} → pos 0 <ℤ a → neg_ℤ a <ℤ pos 0
neg_lt {a} h = let ρ = a ∷ [] in lt_by ρ (neg (var 0)) (con (pos 0)) (omega (arith, lt_to ρ (con (pos 0)) (var 0) h))

pub lt_chain : {a b c : ℤ} → a <ℤ b → b <ℤ c → a <ℤ c
lt_chain {a} {b} {c} h l =
    let ρ = a ∷ b ∷ c ∷ [] in
    lt_by ρ (var 0) (var 2) (omega (arith, lt_to ρ (var 0) (var 1) h, lt_to ρ (var 1) (var 2) l))

-- ---- natural numbers, and the next whole number

pub whole_nonneg : (n : ℕ) → pos 0 ≤ℤ pos n
whole_nonneg n = le_by (pos n ∷ []) (con (pos 0)) (var 0) (omega arith)

pub whole_pos : (n : ℕ) → 0 < n → pos 0 <ℤ pos n
whole_pos n h = lt_by (pos n ∷ []) (con (pos 0)) (var 0) (omega arith)

pub one_pos : pos 0 <ℤ pos 1
one_pos = record { lt = tt }

pub from_one : (z : ℤ) → pos 0 <ℤ z → pos 0 ≤ℤ (z -ℤ pos 1)
from_one z h = let ρ = z ∷ [] in le_by ρ (con (pos 0)) (var 0 ⊖ con (pos 1)) (omega (arith, lt_to ρ (con (pos 0)) (var 0) h))

-- ---- sums

pub add_le : {a b c d : ℤ} → a ≤ℤ b → c ≤ℤ d → (a +ℤ c) ≤ℤ (b +ℤ d)
add_le {a} {b} {c} {d} h k =
    let ρ = a ∷ b ∷ c ∷ d ∷ [] in
    le_by ρ (var 0 ⊕ var 2) (var 1 ⊕ var 3) (omega (arith, le_to ρ (var 0) (var 1) h, le_to ρ (var 2) (var 3) k))

pub add_nonneg : {a b : ℤ} → pos 0 ≤ℤ a → pos 0 ≤ℤ b → pos 0 ≤ℤ (a +ℤ b)
add_nonneg {a} {b} h k =
    let ρ = a ∷ b ∷ [] in
    le_by ρ (con (pos 0)) (var 0 ⊕ var 1) (omega (arith, le_to ρ (con (pos 0)) (var 0) h, le_to ρ (con (pos 0)) (var 1) k))

-- three numbers of which none is below 0
pub sum-zero : (a b c : ℤ) → pos 0 ≤ℤ a → pos 0 ≤ℤ b → pos 0 ≤ℤ c → (a +ℤ b +ℤ c) ≡ pos 0 → (a ≡ pos 0) × (b ≡ pos 0) × (c ≡ pos 0)
sum-zero a b c p q r e =
    let ρ = a ∷ b ∷ c ∷ [] in
    let s = le_to ρ (var 0 ⊕ var 1 ⊕ var 2) (con (pos 0)) (subst (λ (z : ℤ). z ≤ℤ pos 0) (sym e) (≤ℤ_refl (pos 0))) in
    let p' = le_to ρ (con (pos 0)) (var 0) p in
    let q' = le_to ρ (con (pos 0)) (var 1) q in
    let r' = le_to ρ (con (pos 0)) (var 2) r in (
      ≤ℤ-antisym (le_by ρ (var 0) (con (pos 0)) (omega (arith, s, p', q', r'))) p,
      ≤ℤ-antisym (le_by ρ (var 1) (con (pos 0)) (omega (arith, s, p', q', r'))) q,
      ≤ℤ-antisym (le_by ρ (var 2) (con (pos 0)) (omega (arith, s, p', q', r'))) r,
    )

-- ---- products

pub mul-pos : {a b : ℤ} → pos 0 <ℤ a → pos 0 <ℤ b → pos 0 <ℤ (a *ℤ b)
mul-pos {a} {b} h k = above_lt (a *ℤ b) (sign_mul a b ∙ (λ i. product (sign_above h i) (sign_above k i)))

pub mul_neg_pos : {a b : ℤ} → a <ℤ pos 0 → b <ℤ pos 0 → pos 0 <ℤ (a *ℤ b)
mul_neg_pos {a} {b} h k = above_lt (a *ℤ b) (sign_mul a b ∙ (λ i. product (sign_below h i) (sign_below k i)))

-- below, level or above 0, with the fact
pub three_ways : (a : ℤ) → (a <ℤ pos 0) ⊎ ((a ≡ pos 0) ⊎ (pos 0 <ℤ a))
three_ways a = go (sign a) refl
  where
    go : (s : Sign3) → sign a ≡ s → (a <ℤ pos 0) ⊎ ((a ≡ pos 0) ⊎ (pos 0 <ℤ a))
    go below e = inl (below_lt a e)
    go level e = inr (inl (level_eq a e))
    go above e = inr (inr (above_lt a e))

pub mul_nonneg : {a b : ℤ} → pos 0 ≤ℤ a → pos 0 ≤ℤ b → pos 0 ≤ℤ (a *ℤ b)
mul_nonneg {a} {b} h k = go (three_ways a) (three_ways b)
  where
    go : (a <ℤ pos 0) ⊎ ((a ≡ pos 0) ⊎ (pos 0 <ℤ a)) → (b <ℤ pos 0) ⊎ ((b ≡ pos 0) ⊎ (pos 0 <ℤ b)) → pos 0 ≤ℤ (a *ℤ b)
    go (inl p) y = clash_ℤ p h
    go (inr (inl e)) y = subst (λ (z : ℤ). pos 0 ≤ℤ z) (sym (ap (λ (z : ℤ). z *ℤ b) e ∙ zero-*ℤ b)) (≤ℤ_refl (pos 0))
    go (inr (inr p)) (inl q) = clash_ℤ q k
    go (inr (inr p)) (inr (inl e)) = subst (λ (z : ℤ). pos 0 ≤ℤ z) (sym (ap (λ (z : ℤ). a *ℤ z) e ∙ *ℤ-zero a)) (≤ℤ_refl (pos 0))
    go (inr (inr p)) (inr (inr q)) = <ℤ-≤ℤ (mul-pos p q)

pub square_nonneg : (a : ℤ) → pos 0 ≤ℤ (a *ℤ a)
square_nonneg a = go (three_ways a)
  where
    go : (a <ℤ pos 0) ⊎ ((a ≡ pos 0) ⊎ (pos 0 <ℤ a)) → pos 0 ≤ℤ (a *ℤ a)
    go (inl p) = <ℤ-≤ℤ (mul_neg_pos p p)
    go (inr (inl e)) = subst (λ (z : ℤ). pos 0 ≤ℤ (z *ℤ z)) (sym e) (≤ℤ_refl (pos 0))
    go (inr (inr p)) = <ℤ-≤ℤ (mul-pos p p)

pub mul-lt : (k : ℤ) {a b : ℤ} → pos 0 <ℤ k → a <ℤ b → (k *ℤ a) <ℤ (k *ℤ b)
mul-lt k {a} {b} p h =
    lt_of_sub (k *ℤ a) (k *ℤ b)
    (subst (λ (z : ℤ). pos 0 <ℤ z) (ring (k ∷ a ∷ b ∷ []) (var 0 ⊗ (var 2 ⊖ var 1)) (var 0 ⊗ var 2 ⊖ var 0 ⊗ var 1) tt)
    (mul-pos p (sub_pos h)))

pub mul-le : (k : ℤ) {a b : ℤ} → pos 0 ≤ℤ k → a ≤ℤ b → (k *ℤ a) ≤ℤ (k *ℤ b)
mul-le k {a} {b} p h =
    le_of_sub (k *ℤ a) (k *ℤ b)
    (subst (λ (z : ℤ). pos 0 ≤ℤ z) (ring (k ∷ a ∷ b ∷ []) (var 0 ⊗ (var 2 ⊖ var 1)) (var 0 ⊗ var 2 ⊖ var 0 ⊗ var 1) tt)
    (mul_nonneg p (sub_nonneg h)))

-- a factor above 0 goes out
pub lt_cancel : (m : ℤ) {a b : ℤ} → pos 0 <ℤ m → (m *ℤ a) <ℤ (m *ℤ b) → a <ℤ b
lt_cancel m {a} {b} h l = go (lt-or-ge a b)
  where
    go : (a <ℤ b) ⊎ (b ≤ℤ a) → a <ℤ b
    go (inl p) = p
    go (inr p) = clash_ℤ l (mul-le m (<ℤ-≤ℤ h) p)

pub le_cancel : (m : ℤ) {a b : ℤ} → pos 0 <ℤ m → (m *ℤ a) ≤ℤ (m *ℤ b) → a ≤ℤ b
le_cancel m {a} {b} h l = go (lt-or-ge b a)
  where
    go : (b <ℤ a) ⊎ (a ≤ℤ b) → a ≤ℤ b
    go (inl p) = clash_ℤ (mul-lt m h p) l
    go (inr p) = p

-- ---- equations from equations: a - b is a combination of what is 0

pub ring_with : (ρ : List ℤ) (a b k c d : Expr) → T (all_z (norm ((a ⊖ b) ⊖ k ⊗ (c ⊖ d)))) → eval ρ c ≡ eval ρ d → eval ρ a ≡ eval ρ b
ring_with ρ a b k c d t h =
    eq_of_sub (eval ρ a) (eval ρ b)
    (ring ρ (a ⊖ b) (k ⊗ (c ⊖ d)) t ∙ ap (λ (z : ℤ). eval ρ k *ℤ z) (sub_of_eq (eval ρ c) (eval ρ d) h) ∙ *ℤ-zero (eval ρ k))

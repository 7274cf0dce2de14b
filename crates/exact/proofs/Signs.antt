-- Signs of whole numbers, zero products, orders as tests, and the orders `<` and `≤`: from each to the others.
use mathlib.Core.Path.{◌≡◌, refl, sym, ◌∙◌, ap, subst}
use mathlib.Core.Bool.{Bool, true, false, not}
use mathlib.Core.Logic.{◌⊎◌, inl, inr}
use Prim.Native.Nat.{ℕ, zero, suc, ◌*◌, ◌≤◌, ◌<◌, zero-le, suc-le-suc}
use native.Mathlib.Nat.{le_of_lt, mul-pos, not-suc-le-zero}
use native.Mathlib.Omega.{arith}
use lib.Dec.{T, leb→le, le→leb, ltb→lt, lt→ltb, nleb→lt}
use lib.IntN.{ℤ, pos, negsuc, neg_ℤ, ◌+ℤ◌, ◌-ℤ◌, ◌*ℤ◌, zero-*ℤ, *ℤ-zero, +ℤ_invr}
use lib.Signed.{le_z, lt_z, ◌≤ℤ◌, ◌<ℤ◌, <ℤ_irrefl, lt_z_no, lt_z_yes, le_z_yes}
use Rattle.lists.proofs.Truth.{is_true}
use Rattle.exact.specs.Signs.{below, level, above, sign, negated_sign, product}
use Rattle.exact.proofs.Laws.{mul_addℤ, mul_negℤ, eq_of_sub}

-- ---- the sign

pub sign-neg : (a : ℤ) → sign (neg_ℤ a) ≡ negated_sign (sign a)
sign-neg (pos zero) = refl
sign-neg (pos (suc n)) = refl
sign-neg (negsuc n) = refl

-- a natural number above 0
sign_pos : (n : ℕ) → 0 < n → sign (pos n) ≡ above
sign_pos zero h = absurd (not-suc-le-zero h)
sign_pos (suc n) h = refl

above_suc : (a b : ℕ) → sign (pos (suc a * suc b)) ≡ above
above_suc a b = sign_pos (suc a * suc b) (mul-pos (suc-le-suc zero-le) (suc-le-suc zero-le))

pub sign_mul : (a b : ℤ) → sign (a *ℤ b) ≡ product (sign a) (sign b)
sign_mul (pos zero) b = ap sign (zero-*ℤ b)
sign_mul (pos (suc a)) (pos zero) = ap sign (*ℤ-zero (pos (suc a)))
sign_mul (pos (suc a)) (pos (suc b)) = above_suc a b
sign_mul (pos (suc a)) (negsuc b) = sign-neg (pos (suc a * suc b)) ∙ ap negated_sign (above_suc a b)
sign_mul (negsuc a) (pos zero) = ap sign (*ℤ-zero (negsuc a))
sign_mul (negsuc a) (pos (suc b)) = sign-neg (pos (suc a * suc b)) ∙ ap negated_sign (above_suc a b)
sign_mul (negsuc a) (negsuc b) = above_suc a b

-- ---- the sign and the tests

pub sign_below : {a : ℤ} → a <ℤ pos 0 → sign a ≡ below
sign_below {a = pos n} h = absurd (not-suc-le-zero (ltb→lt n 0 h.lt))
sign_below {a = negsuc n} h = refl

pub sign_above : {a : ℤ} → pos 0 <ℤ a → sign a ≡ above
sign_above {a = pos n} h = sign_pos n (ltb→lt 0 n h.lt)
sign_above {a = negsuc n} h = absurd h.lt

pub below_lt : (a : ℤ) → sign a ≡ below → a <ℤ pos 0
below_lt (pos zero) e = let z : ◌≡◌ {A = ℕ} 0 1 = cc in absurd (omega arith)
below_lt (pos (suc n)) e = let z : ◌≡◌ {A = ℕ} 0 1 = cc in absurd (omega arith)
below_lt (negsuc n) e = record { lt = tt }

pub above_lt : (a : ℤ) → sign a ≡ above → pos 0 <ℤ a
above_lt (pos zero) e = let z : ◌≡◌ {A = ℕ} 0 1 = cc in absurd (omega arith)
above_lt (pos (suc n)) e = record { lt = lt→ltb 0 (suc n) (suc-le-suc zero-le) }
above_lt (negsuc n) e = let z : ◌≡◌ {A = ℕ} 0 1 = cc in absurd (omega arith)

pub level_eq : (a : ℤ) → sign a ≡ level → a ≡ pos 0
level_eq (pos zero) e = refl
level_eq (pos (suc n)) e = let z : ◌≡◌ {A = ℕ} 0 1 = cc in absurd (omega arith)
level_eq (negsuc n) e = let z : ◌≡◌ {A = ℕ} 0 1 = cc in absurd (omega arith)

-- neither below nor above
pub sign-level : {a : ℤ} → pos 0 ≤ℤ a → a ≤ℤ pos 0 → sign a ≡ level
sign-level {a = pos zero} h k = refl
sign-level {a = pos (suc n)} h k = absurd (not-suc-le-zero (leb→le (suc n) 0 k.le))
sign-level {a = negsuc n} h k = absurd h.le

-- a test `<=` that failed
nle : (a b : ℤ) → T (not (le_z a b)) → T (lt_z b a)
nle (pos a) (pos b) t = lt→ltb b a (nleb→lt a b t)
nle (pos a) (negsuc b) t = tt
nle (negsuc a) (pos b) t = absurd t
nle (negsuc a) (negsuc b) t = lt→ltb a b (nleb→lt b a t)

-- ---- zero products

pub zero-product : (a b : ℤ) → a *ℤ b ≡ pos 0 → (a ≡ pos 0) ⊎ (b ≡ pos 0)
zero-product (pos zero) b e = inl refl
zero-product (pos (suc a)) (pos zero) e = inr refl
zero-product (pos (suc a)) (pos (suc b)) e =
    absurd (<ℤ_irrefl (subst (λ (z : ℤ). pos 0 <ℤ z) e (above_lt _ (sign_mul (pos (suc a)) (pos (suc b))))))
zero-product (pos (suc a)) (negsuc b) e =
    absurd (<ℤ_irrefl (subst (λ (z : ℤ). z <ℤ pos 0) e (below_lt _ (sign_mul (pos (suc a)) (negsuc b)))))
zero-product (negsuc a) (pos zero) e = inr refl
zero-product (negsuc a) (pos (suc b)) e =
    absurd (<ℤ_irrefl (subst (λ (z : ℤ). z <ℤ pos 0) e (below_lt _ (sign_mul (negsuc a) (pos (suc b))))))
zero-product (negsuc a) (negsuc b) e = absurd (<ℤ_irrefl (subst (λ (z : ℤ). pos 0 <ℤ z) e (above_lt _ (sign_mul (negsuc a) (negsuc b)))))

pub mul_cancelℤ : (k a b : ℤ) → (k ≡ pos 0 → ⊥) → k *ℤ a ≡ k *ℤ b → a ≡ b
mul_cancelℤ k a b h e =
    go
    (zero-product k (a -ℤ b) (mul_addℤ k a (neg_ℤ b) ∙ ap (λ (z : ℤ). k *ℤ a +ℤ z) (mul_negℤ k b) ∙ ap (λ (z : ℤ). z -ℤ k *ℤ b) e
    ∙ +ℤ_invr (k *ℤ b)))
  where
    go : (k ≡ pos 0) ⊎ (a -ℤ b ≡ pos 0) → a ≡ b
    go (inl z) = absurd (h z)
    go (inr z) = eq_of_sub a b z

-- a factor that is not 0 goes out
pub mul-zero : (m a : ℤ) → (m ≡ pos 0 → ⊥) → m *ℤ a ≡ pos 0 → a ≡ pos 0
mul-zero m a n e = go (zero-product m a e)
  where
    go : (m ≡ pos 0) ⊎ (a ≡ pos 0) → a ≡ pos 0
    go (inl h) = absurd (n h)
    go (inr h) = h

pub square_zero : (a : ℤ) → a *ℤ a ≡ pos 0 → a ≡ pos 0
square_zero a e = go (zero-product a a e)
  where
    go : (a ≡ pos 0) ⊎ (a ≡ pos 0) → a ≡ pos 0
    go (inl h) = h
    go (inr h) = h

-- ---- the orders as tests

pub lt_yes : {a b : ℤ} → lt_z a b ≡ true → a <ℤ b
lt_yes e = lt_z_yes (subst T (sym e) tt)

pub lt_is : {a b : ℤ} → a <ℤ b → lt_z a b ≡ true
lt_is h = is_true h.lt

pub le_yes : {a b : ℤ} → le_z a b ≡ true → a ≤ℤ b
le_yes e = le_z_yes (subst T (sym e) tt)

pub le_is : {a b : ℤ} → a ≤ℤ b → le_z a b ≡ true
le_is h = is_true h.le

-- ---- the orders: from `<`, `≤` and equations to each other

pub <ℤ-≤ℤ : {a b : ℤ} → a <ℤ b → a ≤ℤ b
<ℤ-≤ℤ {a} {b} h = record { le = go a b h.lt }
  where
    go : (a b : ℤ) → T (lt_z a b) → T (le_z a b)
    go (pos a) (pos b) t = le→leb a b (le_of_lt (ltb→lt a b t))
    go (pos a) (negsuc b) t = t
    go (negsuc a) (pos b) t = t
    go (negsuc a) (negsuc b) t = le→leb b a (le_of_lt (ltb→lt b a t))

pub ≤ℤ-antisym : {a b : ℤ} → a ≤ℤ b → b ≤ℤ a → a ≡ b
≤ℤ-antisym {a} {b} h k = go a b h.le k.le
  where
    eqn : (a b : ℕ) → a ≤ b → b ≤ a → a ≡ b
    eqn a b h k = omega arith

    go : (a b : ℤ) → T (le_z a b) → T (le_z b a) → a ≡ b
    go (pos a) (pos b) h k = ap pos (eqn a b (leb→le a b h) (leb→le b a k))
    go (pos a) (negsuc b) h k = absurd h
    go (negsuc a) (pos b) h k = absurd k
    go (negsuc a) (negsuc b) h k = ap negsuc (eqn a b (leb→le a b k) (leb→le b a h))

-- which of the two
pub lt-or-ge : (a b : ℤ) → (a <ℤ b) ⊎ (b ≤ℤ a)
lt-or-ge a b = go (lt_z a b) refl
  where
    go : (t : Bool) → lt_z a b ≡ t → (a <ℤ b) ⊎ (b ≤ℤ a)
    go true e = inl (lt_yes e)
    go false e = inr (lt_z_no (subst (λ (u : Bool). T (not u)) (sym e) tt))

pub lt_of_le_ne : {a b : ℤ} → a ≤ℤ b → (a ≡ b → ⊥) → a <ℤ b
lt_of_le_ne {a} {b} h n = go (lt-or-ge a b)
  where
    go : (a <ℤ b) ⊎ (b ≤ℤ a) → a <ℤ b
    go (inl p) = p
    go (inr p) = absurd (n (≤ℤ-antisym h p))

pub <ℤ-ne : {a b : ℤ} → a <ℤ b → a ≡ b → ⊥
<ℤ-ne {a} {b} h e = <ℤ_irrefl (subst (λ (z : ℤ). z <ℤ b) e h)

pub pos-ne : {a : ℤ} → pos 0 <ℤ a → a ≡ pos 0 → ⊥
pos-ne h e = <ℤ-ne h (sym e)

-- between equal numbers
pub lt_subst : {a b c d : ℤ} → a ≡ c → b ≡ d → a <ℤ b → c <ℤ d
lt_subst {a} {b} {c} {d} p q h = subst (λ (z : ℤ). c <ℤ z) q (subst (λ (z : ℤ). z <ℤ b) p h)

pub le_subst : {a b c d : ℤ} → a ≡ c → b ≡ d → a ≤ℤ b → c ≤ℤ d
le_subst {a} {b} {c} {d} p q h = subst (λ (z : ℤ). c ≤ℤ z) q (subst (λ (z : ℤ). z ≤ℤ b) p h)

-- The laws of ℤ as a commutative ring that `lib.IntN` does not have: of products with products, sums and negations.
use mathlib.Core.Path.{◌≡◌, sym, ◌∙◌, ap}
use Prim.Native.Nat.{zero, suc}
use lib.IntN.{ℤ, pos, negsuc, suc_ℤ, pred_ℤ, neg_ℤ, neg_ℤ-neg_ℤ, ◌+ℤ◌, ◌-ℤ◌, ◌*ℤ◌, +ℤ_idl, +ℤ_idr, +ℤ_assoc, +ℤ_comm, +ℤ_invr, +ℤ_invl}
use lib.IntN.{suc_ℤ-+ℤ, pred_ℤ-+ℤ, suc_ℤ-*ℤ, pred_ℤ-*ℤ, zero-*ℤ, *ℤ_comm, *ℤ-one, one}

-- what holds of 0, of the next number and of the one before holds of all
by_steps : (P : ℤ → Type 0) → P (pos zero) → ((a : ℤ) → P a → P (suc_ℤ a)) → ((a : ℤ) → P a → P (pred_ℤ a)) → (a : ℤ) → P a
by_steps P z s p (pos zero) = z
by_steps P z s p (pos (suc n)) = s (pos n) (by_steps P z s p (pos n))
by_steps P z s p (negsuc zero) = p (pos zero) z
by_steps P z s p (negsuc (suc n)) = p (negsuc n) (by_steps P z s p (negsuc n))

-- the last two of three
swap_last : (a b c : ℤ) → (a +ℤ b) +ℤ c ≡ (a +ℤ c) +ℤ b
swap_last a b c = +ℤ_assoc a b c ∙ ap (λ (x : ℤ). a +ℤ x) (+ℤ_comm b c) ∙ sym (+ℤ_assoc a c b)

pub add_mulℤ : (a b c : ℤ) → (a +ℤ b) *ℤ c ≡ a *ℤ c +ℤ b *ℤ c
add_mulℤ a b c =
    by_steps (λ (a : ℤ). (a +ℤ b) *ℤ c ≡ a *ℤ c +ℤ b *ℤ c)
    (ap (λ (x : ℤ). x *ℤ c) (+ℤ_idl b) ∙ sym (+ℤ_idl (b *ℤ c)) ∙ ap (λ (x : ℤ). x +ℤ b *ℤ c) (sym (zero-*ℤ c)))
    (λ a h.
    ap (λ (x : ℤ). x *ℤ c) (suc_ℤ-+ℤ a b) ∙ suc_ℤ-*ℤ (a +ℤ b) c ∙ ap (λ (x : ℤ). x +ℤ c) h ∙ swap_last (a *ℤ c) (b *ℤ c) c
    ∙ ap (λ (x : ℤ). x +ℤ b *ℤ c) (sym (suc_ℤ-*ℤ a c)))
    (λ a h.
    ap (λ (x : ℤ). x *ℤ c) (pred_ℤ-+ℤ a b) ∙ pred_ℤ-*ℤ (a +ℤ b) c ∙ ap (λ (x : ℤ). x +ℤ neg_ℤ c) h ∙ swap_last (a *ℤ c) (b *ℤ c) (neg_ℤ c)
    ∙ ap (λ (x : ℤ). x +ℤ b *ℤ c) (sym (pred_ℤ-*ℤ a c)))
    a

pub mul_addℤ : (a b c : ℤ) → a *ℤ (b +ℤ c) ≡ a *ℤ b +ℤ a *ℤ c
mul_addℤ a b c = *ℤ_comm a (b +ℤ c) ∙ add_mulℤ b c a ∙ (λ i. *ℤ_comm b a i +ℤ *ℤ_comm c a i)

-- a number whose sum with b is 0 is -b
neg_unique : (a b : ℤ) → a +ℤ b ≡ pos zero → a ≡ neg_ℤ b
neg_unique a b h =
    sym (+ℤ_idr a) ∙ ap (λ (x : ℤ). a +ℤ x) (sym (+ℤ_invr b)) ∙ sym (+ℤ_assoc a b (neg_ℤ b)) ∙ ap (λ (x : ℤ). x +ℤ neg_ℤ b) h
    ∙ +ℤ_idl (neg_ℤ b)

pub neg_mulℤ : (a c : ℤ) → neg_ℤ a *ℤ c ≡ neg_ℤ (a *ℤ c)
neg_mulℤ a c = neg_unique (neg_ℤ a *ℤ c) (a *ℤ c) (sym (add_mulℤ (neg_ℤ a) a c) ∙ ap (λ (x : ℤ). x *ℤ c) (+ℤ_invl a) ∙ zero-*ℤ c)

pub mul_negℤ : (a c : ℤ) → a *ℤ neg_ℤ c ≡ neg_ℤ (a *ℤ c)
mul_negℤ a c = *ℤ_comm a (neg_ℤ c) ∙ neg_mulℤ c a ∙ ap neg_ℤ (*ℤ_comm c a)

pub *ℤ-assoc : (a b c : ℤ) → (a *ℤ b) *ℤ c ≡ a *ℤ (b *ℤ c)
*ℤ-assoc a b c =
    by_steps (λ (a : ℤ). (a *ℤ b) *ℤ c ≡ a *ℤ (b *ℤ c))
    (ap (λ (x : ℤ). x *ℤ c) (zero-*ℤ b) ∙ zero-*ℤ c ∙ sym (zero-*ℤ (b *ℤ c)))
    (λ a h. ap (λ (x : ℤ). x *ℤ c) (suc_ℤ-*ℤ a b) ∙ add_mulℤ (a *ℤ b) b c ∙ ap (λ (x : ℤ). x +ℤ b *ℤ c) h ∙ sym (suc_ℤ-*ℤ a (b *ℤ c)))
    (λ a h. ap (λ (x : ℤ). x *ℤ c) (pred_ℤ-*ℤ a b) ∙ add_mulℤ (a *ℤ b) (neg_ℤ b) c ∙ (λ i. h i +ℤ neg_mulℤ b c i)
    ∙ sym (pred_ℤ-*ℤ a (b *ℤ c)))
    a

pub mul_swap_mid : (a b c d : ℤ) → (a *ℤ b) *ℤ (c *ℤ d) ≡ (a *ℤ c) *ℤ (b *ℤ d)
mul_swap_mid a b c d =
    *ℤ-assoc a b (c *ℤ d) ∙ ap (λ (x : ℤ). a *ℤ x) (sym (*ℤ-assoc b c d) ∙ ap (λ (x : ℤ). x *ℤ d) (*ℤ_comm b c) ∙ *ℤ-assoc c b d)
    ∙ sym (*ℤ-assoc a c (b *ℤ d))

pub mul_left_commℤ : (a b c : ℤ) → a *ℤ (b *ℤ c) ≡ b *ℤ (a *ℤ c)
mul_left_commℤ a b c = sym (*ℤ-assoc a b c) ∙ ap (λ (x : ℤ). x *ℤ c) (*ℤ_comm a b) ∙ *ℤ-assoc b a c

pub one_*ℤ : (a : ℤ) → pos 1 *ℤ a ≡ a
unfolding one
one_*ℤ a = *ℤ_comm (pos 1) a ∙ *ℤ-one a

pub *ℤ-1 : (a : ℤ) → a *ℤ pos 1 ≡ a
unfolding one
*ℤ-1 a = *ℤ-one a

-- a difference that is 0
pub eq_of_sub : (a b : ℤ) → a -ℤ b ≡ pos 0 → a ≡ b
eq_of_sub a b h = neg_unique a (neg_ℤ b) h ∙ neg_ℤ-neg_ℤ b

pub sub_of_eq : (a b : ℤ) → a ≡ b → a -ℤ b ≡ pos 0
sub_of_eq a b h = ap (λ (x : ℤ). x -ℤ b) h ∙ +ℤ_invr b

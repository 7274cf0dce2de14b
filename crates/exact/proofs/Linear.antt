-- Orders of linear expressions over ℤ as orders of ℕ, where `omega` works.
-- A number z is `up z` less `dn z`, two natural numbers of which one is 0, and an expression e over ρ is `Pos ρ e` less `Neg ρ e`, which
-- compute to sums of those. So an
-- order of two expressions is one of ℕ, which `omega` proves from the hypotheses, handed over in the same form:
--     le_by ρ a b (omega (arith, lt_to ρ c d h, le_to ρ e f k)) : eval ρ a ≤ℤ eval ρ b
-- with h : eval ρ c <ℤ eval ρ d and k : eval ρ e ≤ℤ eval ρ f. A product of two variables is an unknown to `omega`; a multiple is written
-- `con (pos 3) ⊗ e`.
use mathlib.Core.Path.{◌≡◌, refl, sym, ◌∙◌, ap, subst₂}
use mathlib.Core.Logic.{◌⊎◌, inl, inr}
use mathlib.Core.List.{List, [], ◌∷◌}
use Prim.Native.Nat.{ℕ, zero, suc, ◌+◌, ◌*◌, ◌-◌, ◌≤◌, ◌<◌}
use native.Mathlib.Omega.{arith}
use native.Mathlib.Decide.{dec_le}
use lib.Dec.{T, ltb, leb→le, le→leb, ltb→lt, nltb→le}
use lib.ListN.{get_or}
use lib.IntN.{ℤ, pos, negsuc, neg_ℤ, sub_ℕ, ◌+ℤ◌, ◌-ℤ◌, ◌*ℤ◌, +ℤ_idl, +ℤ_idr}
use lib.Signed.{le_z, ◌≤ℤ◌, ◌<ℤ◌, clash_ℤ}
use Rattle.exact.proofs.Ring.{Expr, var, con, ◌⊕◌, ◌⊖◌, ◌⊗◌, neg, eval, ring}
use Rattle.exact.proofs.Size.{cond_ind}
use Rattle.exact.proofs.Signs.{lt-or-ge}

abbrev pub up : ℤ → ℕ
up (pos n) = n
up (negsuc n) = 0

abbrev pub dn : ℤ → ℕ
dn (pos n) = 0
dn (negsuc n) = suc n

-- the two parts of an expression together: recursion goes through both at once
pub record Parts : Type 0 where
  pub high : ℕ
  pub low : ℕ

abbrev pub parts : List ℤ → Expr → Parts
parts ρ (var v) = record { high = up (get_or ρ v (pos 0)); low = dn (get_or ρ v (pos 0)) }
parts ρ (con c) = record { high = up c; low = dn c }
parts ρ (a ⊕ b) = record { high = (parts ρ a).high + (parts ρ b).high; low = (parts ρ a).low + (parts ρ b).low }
parts ρ (a ⊖ b) = record { high = (parts ρ a).high + (parts ρ b).low; low = (parts ρ a).low + (parts ρ b).high }
parts ρ (a ⊗ b) =
    record {
      high = (parts ρ a).high * (parts ρ b).high + (parts ρ a).low * (parts ρ b).low;
      low = (parts ρ a).high * (parts ρ b).low + (parts ρ a).low * (parts ρ b).high;
    }
parts ρ (neg a) = record { high = (parts ρ a).low; low = (parts ρ a).high }

abbrev pub Pos : List ℤ → Expr → ℕ
Pos ρ e = (parts ρ e).high

abbrev pub Neg : List ℤ → Expr → ℕ
Neg ρ e = (parts ρ e).low

split : (z : ℤ) → z ≡ pos (up z) -ℤ pos (dn z)
split (pos n) = sym (+ℤ_idr (pos n))
split (negsuc n) = sym (+ℤ_idl (negsuc n))

-- the value is the difference of the two parts
parts_is : (ρ : List ℤ) (e : Expr) → eval ρ e ≡ pos (Pos ρ e) -ℤ pos (Neg ρ e)
parts_is ρ (var v) = split (get_or ρ v (pos 0))
parts_is ρ (con c) = split c
parts_is ρ (a ⊕ b) =
    (λ i. parts_is ρ a i +ℤ parts_is ρ b i)
    ∙ ring (pos (Pos ρ a) ∷ pos (Neg ρ a) ∷ pos (Pos ρ b) ∷ pos (Neg ρ b) ∷ []) ((var 0 ⊖ var 1) ⊕ (var 2 ⊖ var 3))
    ((var 0 ⊕ var 2) ⊖ (var 1 ⊕ var 3)) tt
parts_is ρ (a ⊖ b) =
    (λ i. parts_is ρ a i -ℤ parts_is ρ b i)
    ∙ ring (pos (Pos ρ a) ∷ pos (Neg ρ a) ∷ pos (Pos ρ b) ∷ pos (Neg ρ b) ∷ []) ((var 0 ⊖ var 1) ⊖ (var 2 ⊖ var 3))
    ((var 0 ⊕ var 3) ⊖ (var 1 ⊕ var 2)) tt
parts_is ρ (a ⊗ b) =
    (λ i. parts_is ρ a i *ℤ parts_is ρ b i)
    ∙ ring (pos (Pos ρ a) ∷ pos (Neg ρ a) ∷ pos (Pos ρ b) ∷ pos (Neg ρ b) ∷ []) ((var 0 ⊖ var 1) ⊗ (var 2 ⊖ var 3))
    ((var 0 ⊗ var 2 ⊕ var 1 ⊗ var 3) ⊖ (var 0 ⊗ var 3 ⊕ var 1 ⊗ var 2)) tt
parts_is ρ (neg a) =
    ap neg_ℤ (parts_is ρ a) ∙ ring (pos (Pos ρ a) ∷ pos (Neg ρ a) ∷ []) (neg (var 0 ⊖ var 1)) (var 1 ⊖ var 0) tt

-- ---- differences of natural numbers, ordered

sub_is : (p n : ℕ) → pos p -ℤ pos n ≡ sub_ℕ p n
sub_is p zero =
    cond_ind (ltb p 0) (negsuc (0 - suc p)) (pos (p - 0)) (λ z. pos (p + 0) ≡ z)
    (λ t. absurd (bad p (ltb→lt p 0 t))) (λ t. ap pos (same p))
  where
    bad : (p : ℕ) → p < 0 → ⊥
    bad p h = omega arith

    same : (p : ℕ) → p + 0 ≡ p - 0
    same p = omega arith
sub_is p (suc n) = refl

le_subℕ : (p n q m : ℕ) → p + m ≤ q + n → T (le_z (sub_ℕ p n) (sub_ℕ q m))
le_subℕ p n q m h =
    cond_ind (ltb p n) (negsuc (n - suc p)) (pos (p - n)) (λ z. T (le_z z (sub_ℕ q m)))
    (λ s. cond_ind (ltb q m) (negsuc (m - suc q)) (pos (q - m)) (λ z. T (le_z (negsuc (n - suc p)) z))
    (λ t. le→leb (m - suc q) (n - suc p) (both p n q m h (ltb→lt p n s) (ltb→lt q m t)))
    (λ t. tt))
    (λ s. cond_ind (ltb q m) (negsuc (m - suc q)) (pos (q - m)) (λ z. T (le_z (pos (p - n)) z))
    (λ t. absurd (bad p n q m h (nltb→le p n s) (ltb→lt q m t)))
    (λ t. le→leb (p - n) (q - m) (none p n q m h (nltb→le p n s) (nltb→le q m t))))
  where
    both : (p n q m : ℕ) → p + m ≤ q + n → p < n → q < m → m - suc q ≤ n - suc p
    both p n q m h s t = omega arith

    bad : (p n q m : ℕ) → p + m ≤ q + n → n ≤ p → q < m → ⊥
    bad p n q m h s t = omega arith

    none : (p n q m : ℕ) → p + m ≤ q + n → n ≤ p → m ≤ q → p - n ≤ q - m
    none p n q m h s t = omega arith

subℕ_le : (p n q m : ℕ) → T (le_z (sub_ℕ p n) (sub_ℕ q m)) → p + m ≤ q + n
subℕ_le p n q m =
    cond_ind (ltb p n) (negsuc (n - suc p)) (pos (p - n)) (λ z. T (le_z z (sub_ℕ q m)) → p + m ≤ q + n)
    (λ s. cond_ind (ltb q m) (negsuc (m - suc q)) (pos (q - m)) (λ z. T (le_z (negsuc (n - suc p)) z) → p + m ≤ q + n)
    (λ t h. both p n q m (leb→le (m - suc q) (n - suc p) h) (ltb→lt p n s) (ltb→lt q m t))
    (λ t h. mixed p n q m (ltb→lt p n s) (nltb→le q m t)))
    (λ s. cond_ind (ltb q m) (negsuc (m - suc q)) (pos (q - m)) (λ z. T (le_z (pos (p - n)) z) → p + m ≤ q + n)
    (λ t h. absurd h)
    (λ t h. none p n q m (leb→le (p - n) (q - m) h) (nltb→le p n s) (nltb→le q m t)))
  where
    both : (p n q m : ℕ) → m - suc q ≤ n - suc p → p < n → q < m → p + m ≤ q + n
    both p n q m h s t = omega arith

    mixed : (p n q m : ℕ) → p < n → m ≤ q → p + m ≤ q + n
    mixed p n q m s t = omega arith

    none : (p n q m : ℕ) → p - n ≤ q - m → n ≤ p → m ≤ q → p + m ≤ q + n
    none p n q m h s t = omega arith

module _ (ρ : List ℤ) (a b : Expr) where
  va : eval ρ a ≡ sub_ℕ (Pos ρ a) (Neg ρ a)
  va = parts_is ρ a ∙ sub_is (Pos ρ a) (Neg ρ a)

  vb : eval ρ b ≡ sub_ℕ (Pos ρ b) (Neg ρ b)
  vb = parts_is ρ b ∙ sub_is (Pos ρ b) (Neg ρ b)

  pub le_by : Pos ρ a + Neg ρ b ≤ Pos ρ b + Neg ρ a → eval ρ a ≤ℤ eval ρ b
  le_by h = subst₂ (λ (x y : ℤ). x ≤ℤ y) (sym va) (sym vb) (record { le = le_subℕ (Pos ρ a) (Neg ρ a) (Pos ρ b) (Neg ρ b) h })

  pub le_to : eval ρ a ≤ℤ eval ρ b → Pos ρ a + Neg ρ b ≤ Pos ρ b + Neg ρ a
  le_to h = subℕ_le (Pos ρ a) (Neg ρ a) (Pos ρ b) (Neg ρ b) (subst₂ (λ (x y : ℤ). T (le_z x y)) va vb h.le)

module _ (ρ : List ℤ) (a b : Expr) where
  pub lt_by : Pos ρ a + Neg ρ b < Pos ρ b + Neg ρ a → eval ρ a <ℤ eval ρ b
  lt_by h = go (lt-or-ge (eval ρ a) (eval ρ b))
    where
      bad : (x y : ℕ) → x < y → y ≤ x → ⊥
      bad x y h k = omega arith

      go : (eval ρ a <ℤ eval ρ b) ⊎ (eval ρ b ≤ℤ eval ρ a) → eval ρ a <ℤ eval ρ b
      go (inl p) = p
      go (inr p) = absurd (bad (Pos ρ a + Neg ρ b) (Pos ρ b + Neg ρ a) h (le_to ρ b a p))

  pub lt_to : eval ρ a <ℤ eval ρ b → Pos ρ a + Neg ρ b < Pos ρ b + Neg ρ a
  lt_to h = go (dec_le (Pos ρ b + Neg ρ a) (Pos ρ a + Neg ρ b))
    where
      other : (x y : ℕ) → (y ≤ x → ⊥) → x < y
      other x y h = omega arith

      go : Dec (Pos ρ b + Neg ρ a ≤ Pos ρ a + Neg ρ b) → Pos ρ a + Neg ρ b < Pos ρ b + Neg ρ a
      go (yes p) = clash_ℤ h (le_by ρ b a p)
      go (no p) = other (Pos ρ a + Neg ρ b) (Pos ρ b + Neg ρ a) p

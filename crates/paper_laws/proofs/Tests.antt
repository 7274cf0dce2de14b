-- A test that is true just where a statement holds, and such tests put together.
use mathlib.Core.Path.{◌≡◌, refl}
use mathlib.Core.Bool.{Bool, true, false, not, ◌&&◌, ◌||◌}
use mathlib.Core.Logic.{◌↔◌, ◌⊎◌, inl, inr}
use mathlib.Core.List.{List}
use Prim.Native.Nat.{ℕ, zero, suc, ◌+◌, ◌≤◌, ◌<◌}
use native.Mathlib.Omega.{arith}
use borrow.Author.Tests.{ltb-true, leb-true, eqb-true, lt-ltb, le-leb, eq-eqb}
use lib.Dec.{ltb, leb, eqb}
use lib.IntN.{ℤ, pos, negsuc}
use lib.ListN.{length}
use lib.Signed.{◌<ℤ◌, lt_z, lt_z_yes}
use Rattle.lists.specs.Around.{around}
use Rattle.lists.specs.Lists.{sides, any_true}
use Rattle.lists.proofs.Sides.{side_yes, side_is}
use Rattle.paper.specs.Points.{is_zero}
use Rattle.lists.proofs.Truth.{is_true, and_left, and_right, and_both, or_left, or_right, or_cases}

abbrev pub Is : Bool → Type 0 → Type 0
Is b A = (b ≡ true) ↔ A

pub is_lt : (a b : ℕ) → Is (ltb a b) (a < b)
is_lt a b = (ltb-true a b, lt-ltb a b)

pub is_le : (a b : ℕ) → Is (leb a b) (a ≤ b)
is_le a b = (leb-true a b, le-leb a b)

pub is_eq : (a b : ℕ) → Is (eqb a b) (a ≡ b)
is_eq a b = (eqb-true a b, eq-eqb a b)

pub is_lt_z : (a b : ℤ) → Is (lt_z a b) (a <ℤ b)
is_lt_z a b = (λ e. lt_z_yes (rw e tt), λ h. is_true h.lt)

pub is_not : (b : Bool) {A : Type 0} → Is b A → Is (not b) (A → ⊥)
is_not true i = (λ e h. let z : ◌≡◌ {A = ℕ} 0 1 = cc in omega arith, λ f. absurd (f (i.0 refl)))
is_not false i = (λ e h. let z : false ≡ true = i.1 h in let y : ◌≡◌ {A = ℕ} 0 1 = cc in omega arith, λ f. refl)

pub is_or : (a b : Bool) {A B : Type 0} → Is a A → Is b B → Is (a || b) (A ⊎ B)
is_or a b {A} {B} i j = (λ e. go (or_cases a b e), back)
  where
    go : (a ≡ true) ⊎ (b ≡ true) → A ⊎ B
    go (inl e) = inl (i.0 e)
    go (inr e) = inr (j.0 e)

    back : A ⊎ B → (a || b) ≡ true
    back (inl h) = or_left a b (i.1 h)
    back (inr h) = or_right a b (j.1 h)

pub is_and : (a b : Bool) {A B : Type 0} → Is a A → Is b B → Is (a && b) (A × B)
is_and a b i j = (λ e. (i.0 (and_left a b e), j.0 (and_right a b e)), λ h. and_both (i.1 h.0) (j.1 h.1))

-- a test that is false stands for what does not hold
pub is_off : {b : Bool} {A : Type 0} → Is b A → b ≡ false → A → ⊥
is_off i e h = let z = i.1 h in let y : ◌≡◌ {A = ℕ} 0 1 = cc in omega arith

-- another statement that holds just where this one does
pub is_to : (b : Bool) {A B : Type 0} → Is b A → (A → B) → (B → A) → Is b B
is_to b i f g = (λ e. f (i.0 e), λ h. i.1 (g h))

pub is_zero_lem : (z : ℤ) → Is (is_zero z) (z ≡ pos 0)
unfolding is_zero
is_zero_lem (pos zero) = (λ e. refl, λ e. refl)
is_zero_lem (pos (suc n)) = (λ e. let z : ◌≡◌ {A = ℕ} 0 1 = cc in absurd (omega arith), λ e. let z : suc n ≡ 0 = cc in absurd (omega arith))
is_zero_lem (negsuc n) = (
  λ e. let z : ◌≡◌ {A = ℕ} 0 1 = cc in absurd (omega arith),
  λ e. let z : ◌≡◌ {A = ℕ} 0 1 = cc in absurd (omega arith),
)

-- ---- a test at one of the sides of a ring

pub is_side : {A : Type 0} (z : A) (q : A → A → Bool) (l : List A) (Q : A → A → Type 0) → ((a b : A) → Is (q a b) (Q a b))
    → Is (any_true (sides q l)) ((k : ℕ) × (k < length l) × Q (around l k z) (around l (k + 1) z))
is_side z q l Q f = (
  λ e. let r = side_yes z q l e in (r.0, r.1, (f (around l r.0 z) (around l (r.0 + 1) z)).0 r.2),
  λ r. side_is z q l r.0 r.1 ((f (around l r.0 z) (around l (r.0 + 1) z)).1 r.2),
)

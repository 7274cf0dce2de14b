-- A coordinate and its number on the sheet.
use mathlib.Core.Path.{◌≡◌, refl, ap, ◌∙◌}
use mathlib.Core.Bool.{Bool, true, false, or-false}
use mathlib.Core.Logic.{◌⊎◌, ⊎_elim}
use Prim.Native.Nat.{ℕ, suc, ◌+◌, ◌-◌, ◌≤◌, ◌<◌}
use native.Mathlib.Omega.{arith}
use lib.IntN.{ℤ, pos, negsuc, nat_abs, ◌+ℤ◌}
use lib.Signed.{mag}
use lib.Dec.{ltb}
use borrow.Author.Tests.{lt-ltb, le-ltb, ltb-true, ltb-false}
use Rattle.paper.specs.Sheet.{far}
use Rattle.paper.specs.Format.{coordinate, on_sheet}

pub coordinate_low : (n : ℕ) → n < 1000 → coordinate n ≡ negsuc (1000 - suc n)
coordinate_low n h = rw (lt-ltb n 1000 h) refl

pub coordinate_high : (n : ℕ) → 1000 ≤ n → coordinate n ≡ pos (n - 1000)
coordinate_high n h = rw (le-ltb n 1000 h) refl

split : (n : ℕ) (b : Bool) → ltb n 1000 ≡ b → (n < 1000) ⊎ (1000 ≤ n)
split n true e = ◌⊎◌.inl (ltb-true n 1000 e)
split n false e = ◌⊎◌.inr (ltb-false n 1000 e)

pub coordinate_mag : (n m : ℕ) → n < m → 1000 ≤ m → mag (coordinate n) < m
coordinate_mag n m h l =
    ⊎_elim (λ (a : n < 1000). rw (coordinate_low n a) (omega arith)) (λ (b : 1000 ≤ n). rw (coordinate_high n b) (omega arith))
    (split n (ltb n 1000) refl)

neg_on : (k : ℕ) → k < 1000 → on_sheet (negsuc k) ≡ 1000 - suc k
neg_on k h = rw (le-ltb 1000 (suc k) h) refl

pub on_sheet-coordinate : (n : ℕ) → on_sheet (coordinate n) ≡ n
on_sheet-coordinate n =
    ⊎_elim
    (λ (a : n < 1000). ap on_sheet (coordinate_low n a) ∙ neg_on (1000 - suc n) (omega arith) ∙ omega arith)
    (λ (b : 1000 ≤ n). ap on_sheet (coordinate_high n b) ∙ plus (n - 1000) ∙ omega arith)
    (split n (ltb n 1000) refl)
  where
    plus : (k : ℕ) → on_sheet (pos k) ≡ k + 1000
    plus k = refl

-- what refusal 8 leaves
pub in_reach : (z : ℤ) → far z ≡ false → nat_abs z ≤ 1000
in_reach (pos n) e = ltb-false 1000 n e
in_reach (negsuc n) e = omega (arith, ltb-false 999 n (rw or-false at e))

pub near : (z : ℤ) → far z ≡ false → (on_sheet z ≤ 2000) × (coordinate (on_sheet z) ≡ z)
near (pos n) e =
    let h : n ≤ 1000 = in_reach (pos n) e in
    let d : n + 1000 - 1000 ≡ n = omega arith in
    (omega arith, coordinate_high (n + 1000) (omega arith) ∙ ap pos d)
near (negsuc n) e =
    let h : n < 1000 = in_reach (negsuc n) e in
    let d : 1000 - suc (1000 - suc n) ≡ n = omega arith in
    let m : on_sheet (negsuc n) ≡ 1000 - suc n = neg_on n h in
    (omega (arith, m), ap coordinate m ∙ coordinate_low (1000 - suc n) (omega arith) ∙ ap negsuc d)

pub near_pos : (z : ℤ) → far z ≡ false → z +ℤ pos 1000 ≡ pos (on_sheet z)
near_pos (pos n) e = refl
near_pos (negsuc n) e =
    let h : n < 1000 = in_reach (negsuc n) e in
    rw (le-ltb 1000 (suc n) h) refl

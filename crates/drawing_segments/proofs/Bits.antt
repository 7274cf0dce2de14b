-- Numbers that the machine compares by their bits.
use mathlib.Core.Bool.{Bool, cond}
use mathlib.Core.Path.{◌∙◌, ◌≡◌, ap, sym}
use Prim.Native.Nat.{◌^◌, ◌<◌}
use lib.IntN.{ℤ}
use lib.Signed.{le_z, mag}
use mir.Syntax.{w64}
use mir.Val.{SFits, of_z, to_z, hbits}
use Rattle.exact.proofs.Machine.{plain}
use Rattle.polygon.proofs.Zeros.{reads_back}
use Rattle.fast_meets.specs.Boxes.{clear}

-- what a test `a <= b` picks
pub picked : {a b : ℤ} → SFits w64 a → SFits w64 b → (x y : ℤ) {t : Bool} → le_z (to_z w64 (of_z w64 a)) (to_z w64 (of_z w64 b)) ≡ t
    → cond t x y ≡ cond (le_z a b) x y
picked {a} {b} h k x y e =
    let p = (plain h).reading in
    let q = (plain k).reading in
    ap (λ (t : Bool). cond t x y) (sym e ∙ (λ i. le_z (p i) (q i)))

-- what a call makes of two numbers that it is handed as bits, and hands back as bits
module _ (f : ℤ → ℤ → ℤ) (a b r : ℤ) where
  pub of_two : mag a < 2 ^ hbits w64 → mag b < 2 ^ hbits w64 → mag r < 2 ^ hbits w64
      → r ≡ f (to_z w64 (of_z w64 a)) (to_z w64 (of_z w64 b)) → to_z w64 (of_z w64 r) ≡ f a b
  of_two h k l e = reads_back r l ∙ e ∙ (λ i. f (reads_back a h i) (reads_back b k i))

-- spans that are handed as bits
module _ (low high l h : ℤ) where
  pub clear-read : mag low < 2 ^ hbits w64 → mag high < 2 ^ hbits w64 → mag l < 2 ^ hbits w64 → mag h < 2 ^ hbits w64
      → clear (to_z w64 (of_z w64 low)) (to_z w64 (of_z w64 high)) (to_z w64 (of_z w64 l)) (to_z w64 (of_z w64 h)) ≡ clear low high l h
  clear-read p q r s = λ i. clear (reads_back low p i) (reads_back high q i) (reads_back l r i) (reads_back h s i)

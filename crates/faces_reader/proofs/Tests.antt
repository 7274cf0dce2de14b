-- Tests in a row: what one that fails decides, and what a count that is answered, or not, says of them.
use mathlib.Core.Path.{◌≡◌, refl, sym}
use mathlib.Core.Bool.{Bool, true, false, ◌&&◌, cond, true≢false}
use mathlib.Core.Option.{none, some}
use Prim.Native.Nat.{ℕ}
use native.Mathlib.Omega.{arith}

-- an answer that is taken, or not
pub picked : (b : Bool) (n : ℕ) {m : ℕ} → some m ≡ cond b (some n) none → (b ≡ true) × (m ≡ n)
picked true n e = (refl, cc)
picked false n e = let z : ◌≡◌ {A = ℕ} 0 1 = cc in absurd (omega arith)

pub dropped : (b : Bool) (n : ℕ) → none ≡ cond b (some n) none → b ≡ false
dropped true n e = let z : ◌≡◌ {A = ℕ} 0 1 = cc in absurd (omega arith)
dropped false n e = refl

-- any of five that fails
pub third : (a b : Bool) {c : Bool} (d e : Bool) → c ≡ false → (a && b && c && d && e) ≡ false
third true true d e h = rw h refl
third true false d e h = refl
third false b d e h = refl

pub fourth : (a b c : Bool) {d : Bool} (e : Bool) → d ≡ false → (a && b && c && d && e) ≡ false
fourth true true true e h = rw h refl
fourth true true false e h = refl
fourth true false c e h = refl
fourth false b c e h = refl

-- the first two with one before them, of which one fails
pub first_two : (l a b c : Bool) {d : Bool} (e : Bool) → (l ≡ false → d ≡ false) → (l && a && b) ≡ false
    → (a && b && c && d && e) ≡ false
first_two true true true c e h q = absurd (true≢false q)
first_two true true false c e h q = refl
first_two true false b c e h q = refl
first_two false a b c e h q = fourth a b c e (h refl)

-- the first three pass: the last two decide
pub last_two : (l a b : Bool) {c : Bool} (d e : Bool) → (l && a && b) ≡ true → c ≡ true → (a && b && c && d && e) ≡ (d && e)
last_two true true true d e q h = rw h refl
last_two true true false d e q h = absurd (true≢false (sym q))
last_two true false b d e q h = absurd (true≢false (sym q))
last_two false a b d e q h = absurd (true≢false (sym q))

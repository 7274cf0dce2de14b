-- A number's decimal digits: one behind those of a tenth of it.
use mathlib.Core.List.{List, ◌++◌}
use mathlib.Core.Path.{◌≡◌, sym, ap, ◌∙◌}
use Prim.Native.Nat.{ℕ, zero, suc, ◌+◌, ◌*◌, ◌/◌, ◌%◌, ◌^◌, ◌≤◌, ◌<◌}
use native.Mathlib.Nat.{pow-suc}
use native.Mathlib.Decide.{dec_lt}
use native.Mathlib.Omega.{arith}
use borrow.Author.Tests.{lt-ltb, le-ltb}
use Rattle.paper.specs.Desk.{decimal_in, decimal}
use Rattle.desk_lines.specs.Put.{digit_text}

-- a number below ten is one digit; of any other the last digit stands behind those of a tenth of it
one : (k n : ℕ) → n < 10 → decimal_in (suc k) n ≡ digit_text n
unfolding decimal_in
one k n h = rw (lt-ltb n 10 h)

more : (k n : ℕ) → 10 ≤ n → decimal_in (suc k) n ≡ decimal_in k (n / 10) ++ digit_text (n % 10)
unfolding decimal_in
more k n h = rw (le-ltb n 10 h)

tenth : (n m : ℕ) → n < m * 10 → n / 10 < m
tenth n m h = omega arith

-- more places than are needed change nothing
places : (k n : ℕ) → n < 10 ^ suc k → decimal_in (suc k) n ≡ decimal_in (suc (suc k)) n
places zero n h = one 0 n (omega arith) ∙ sym (one 1 n (omega arith))
places (suc k) n h = go (dec_lt n 10) (places k (n / 10) (tenth n (10 ^ suc k) (rw pow-suc at h)))
  where
    go : Dec (n < 10) → decimal_in (suc k) (n / 10) ≡ decimal_in (suc (suc k)) (n / 10)
        → decimal_in (suc (suc k)) n ≡ decimal_in (suc (suc (suc k))) n
    go (yes s) e = one (suc k) n s ∙ sym (one (suc (suc k)) n s)
    go (no s) e =
        let t : 10 ≤ n = omega (arith, s) in
        more (suc k) n t ∙ ap (λ (l : List ℕ). l ++ digit_text (n % 10)) e ∙ sym (more (suc (suc k)) n t)

pub decimal-one : (n : ℕ) → n < 10 → decimal n ≡ digit_text n
unfolding decimal
decimal-one n h = one 19 n h

pub decimal_more : (n : ℕ) → n < 2 ^ 64 → 10 ≤ n → decimal n ≡ decimal (n / 10) ++ digit_text (n % 10)
unfolding decimal
decimal_more n s h =
    let f : n < 10 ^ 19 * 10 = omega arith in
    more 19 n h ∙ ap (λ (l : List ℕ). l ++ digit_text (n % 10)) (places 18 (n / 10) (tenth n (10 ^ 19) f))

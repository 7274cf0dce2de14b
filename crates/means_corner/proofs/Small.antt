-- What holds of all small fractions.
use mathlib.Core.List.{[], ◌∷◌}
use Prim.Native.Nat.{ℕ, suc, ◌+◌, ◌*◌, ◌≤◌, ◌<◌}
use native.Mathlib.Omega.{arith}
use lib.IntN.{ℤ, pos, negsuc, nat_abs, ◌+ℤ◌, ◌*ℤ◌}
use Rattle.exact.proofs.Ring.{var, con, ◌⊕◌, ◌⊖◌, ◌⊗◌, ring}
use Rattle.exact.proofs.Linear.{lt_by}
use Rattle.exact.proofs.Order.{whole_nonneg, from_one, mul_nonneg}
use Rattle.means_area.specs.Flats.{Up}
use Rattle.means_area.proofs.Flats.Signs.{up_is, nn_up}
use Rattle.means_corner.specs.Corners.{ForSmall}

pub always : {P : ℕ → ℕ → Type 0} → ((s n : ℕ) → 0 < s → 0 < n → P s n) → ForSmall P
always f = (0, λ s n hs hn h. f s n hs hn)

pub then : {P Q : ℕ → ℕ → Type 0} → ((s n : ℕ) → P s n → Q s n) → ForSmall P → ForSmall Q
then f a = (a.0, λ s n hs hn h. f s n (a.1 s n hs hn h))

pub both_small : {P Q : ℕ → ℕ → Type 0} → ForSmall P → ForSmall Q → ForSmall (λ s n. P s n × Q s n)
both_small {P} {Q} a b = (a.0 + b.0, go a.0 b.0 a.1 b.1)
  where
    go : (x y : ℕ) → ((s n : ℕ) → 0 < s → 0 < n → (x * s) ≤ n → P s n) → ((s n : ℕ) → 0 < s → 0 < n → (y * s) ≤ n → Q s n)
        → (s n : ℕ) → 0 < s → 0 < n → ((x + y) * s) ≤ n → P s n × Q s n
    go x y f g s n hs hn h = (f s n hs hn (omega arith), g s n hs hn (omega arith))

-- n t + s e is above 0 where t is
beyond : (s n : ℕ) (e : ℤ) → 0 < s → (suc (nat_abs e) * s) ≤ n → Up (pos n +ℤ pos s *ℤ e)
beyond s n (pos k) hs h = lt_by (pos n ∷ pos s ∷ pos k ∷ []) (con (pos 0)) (var 0 ⊕ var 1 ⊗ var 2) (omega arith)
beyond s n (negsuc k) hs h = lt_by (pos n ∷ pos s ∷ negsuc k ∷ []) (con (pos 0)) (var 0 ⊕ var 1 ⊗ var 2) (omega arith)

pub stays : (t e : ℤ) → Up t → ForSmall (λ s n. Up (pos n *ℤ t +ℤ pos s *ℤ e))
stays t e u = (
  suc (nat_abs e),
  λ s n hs hn h. up_is
      (ring (pos n ∷ pos s ∷ t ∷ e ∷ []) (var 0 ⊗ (var 2 ⊖ con (pos 1)) ⊕ (var 0 ⊕ var 1 ⊗ var 3)) (var 0 ⊗ var 2 ⊕ var 1 ⊗ var 3) tt)
      (nn_up (mul_nonneg (whole_nonneg n) (from_one t u)) (beyond s n e hs h)),
)

-- Whole numbers: tests after a sum, and of a number with the other sign.
use mathlib.Core.Path.{◌≡◌, refl, sym, ◌∙◌}
use mathlib.Core.Bool.{◌&&◌, ◌||◌, or_comm}
use mathlib.Core.List.{[], ◌∷◌}
use Prim.Native.Nat.{zero, suc}
use native.Mathlib.Omega.{arith}
use borrow.Author.Tests.{lt-ltb, le-ltb}
use lib.IntN.{ℤ, pos, negsuc, neg_ℤ, ◌+ℤ◌}
use lib.Signed.{le_z}
use Rattle.means_inside.proofs.Segment.{below-neg}
use Rattle.exact.proofs.Ring.{var, ◌⊕◌, neg}
use Rattle.exact.proofs.Linear.{le_by, le_to}
use Rattle.exact.proofs.Signs.{le_is, le_yes}
use Rattle.lists.proofs.Truth.{same_truth}
use Rattle.paper.specs.Points.{is_zero, above, below}
use Rattle.paper.specs.Clash.{opposite}

pub le_shift : (a b t : ℤ) → le_z (a +ℤ t) (b +ℤ t) ≡ le_z a b
le_shift a b t =
    let ρ = a ∷ b ∷ t ∷ [] in
    same_truth (le_z (a +ℤ t) (b +ℤ t)) (le_z a b)
    (λ e. le_is (le_by ρ (var 0) (var 1) (omega (arith, le_to ρ (var 0 ⊕ var 2) (var 1 ⊕ var 2) (le_yes e)))))
    (λ e. le_is (le_by ρ (var 0 ⊕ var 2) (var 1 ⊕ var 2) (omega (arith, le_to ρ (var 0) (var 1) (le_yes e)))))

pub le_neg : (a b : ℤ) → le_z (neg_ℤ a) (neg_ℤ b) ≡ le_z b a
le_neg a b =
    let ρ = a ∷ b ∷ [] in
    same_truth (le_z (neg_ℤ a) (neg_ℤ b)) (le_z b a)
    (λ e. le_is (le_by ρ (var 1) (var 0) (omega (arith, le_to ρ (neg (var 0)) (neg (var 1)) (le_yes e)))))
    (λ e. le_is (le_by ρ (neg (var 0)) (neg (var 1)) (omega (arith, le_to ρ (var 1) (var 0) (le_yes e)))))

pub zero_neg : (z : ℤ) → is_zero (neg_ℤ z) ≡ is_zero z
unfolding is_zero
zero_neg (pos zero) = refl
zero_neg (pos (suc n)) = refl
zero_neg (negsuc n) = refl

pub above-neg : (z : ℤ) → above (neg_ℤ z) ≡ below z
unfolding above below
above-neg (pos zero) = refl
above-neg (pos (suc n)) = sym (le-ltb (suc n) 0 (omega arith))
above-neg (negsuc n) = lt-ltb 0 (suc n) (omega arith)

pub opposite-neg : (a b : ℤ) → opposite (neg_ℤ a) (neg_ℤ b) ≡ opposite a b
unfolding opposite
opposite-neg a b =
    (λ i. below-neg a i && above-neg b i || above-neg a i && below-neg b i) ∙ or_comm (above a && below b) (below a && above b)

-- The least of the fractions at which the sides of a ring are first met.
use mathlib.Core.Path.{◌≡◌, refl, sym, subst}
use mathlib.Core.Logic.{◌⊎◌, inl, inr}
use mathlib.Core.List.{List, [], ◌∷◌}
use lib.IntN.{ℤ, neg_ℤ, ◌-ℤ◌, ◌*ℤ◌}
use Rattle.exact.proofs.Ring.{var, ◌⊕◌, ◌⊖◌, ◌⊗◌, neg, ring}
use Rattle.exact.proofs.Order.{mul-pos, mul_nonneg}
use Rattle.paper.specs.declared.Flat.{Flat}
use Rattle.means_area.specs.Flats.{Up, Nn}
use Rattle.means_area.proofs.Flats.Signs.{up_is, nn_is, up_nn, nn_up, which, up_out}
use Rattle.means_inside.specs.Convex.{NextAlong}
use Rattle.means_border.proofs.Side.{Hit, Never, Until, Side, never, first}

at-ends : (P : Flat → Flat → Type 0) (x y : Flat) → P x y → (a b : Flat) → (a ≡ x) × (b ≡ y) → P a b
at-ends P x y h a b e = subst (λ (z : Flat). P z b) (sym e.0) (subst (λ (z : Flat). P x z) (sym e.1) h)

module _ (p w : Flat) where
  pub data Firsts (x : Flat) (l : List Flat) (e : Flat) : Type 0 where
    not_met : ((a b : Flat) → NextAlong x l e a b → Never p w a b) → Firsts x l e
    met : (s m : ℤ) → Up s → Up m → (a b : Flat) → NextAlong x l e a b → Hit p w s m a b
        → ((c d : Flat) → NextAlong x l e c d → Until p w s m c d) → Firsts x l e

  -- what is not met before s₂ / m₂ is not met before s₁ / m₁, which is not above it
  sooner : (s₁ m₁ s₂ m₂ : ℤ) (a b : Flat) → Up m₁ → Up m₂ → Nn (s₂ *ℤ m₁ -ℤ s₁ *ℤ m₂) → Until p w s₂ m₂ a b → Until p w s₁ m₁ a b
  sooner s₁ m₁ s₂ m₂ a b u₁ u₂ n f s' m' hs um k =
      f s' m' hs um
      (up_out m₁ u₁
      (up_is
      (ring (s₁ ∷ m₁ ∷ s₂ ∷ m₂ ∷ s' ∷ m' ∷ [])
      (var 5 ⊗ (var 2 ⊗ var 1 ⊖ var 0 ⊗ var 3) ⊕ var 3 ⊗ (var 0 ⊗ var 5 ⊖ var 4 ⊗ var 1))
      (var 1 ⊗ (var 2 ⊗ var 5 ⊖ var 4 ⊗ var 3)) tt)
      (nn_up (mul_nonneg (up_nn um) n) (mul-pos u₂ k))))

  always_until : (s m : ℤ) (a b : Flat) → Never p w a b → Until p w s m a b
  always_until s m a b f s' m' hs um k = f s' m' hs um

  pub least : (x : Flat) (l : List Flat) (e : Flat) → ((a b : Flat) → NextAlong x l e a b → Side p w a b) → Firsts x l e
  least x [] e f = go (f x e (refl, refl))
    where
      go : Side p w x e → Firsts x [] e
      go (never n) = not_met (at-ends (Never p w) x e n)
      go (first s m us um h n) = met s m us um x e (refl, refl) h (at-ends (Until p w s m) x e n)
  least x (y ∷ l) e f = go (f x y (inl (refl, refl))) (least y l e (λ a b k. f a b (inr k)))
    where
      both : (P : Flat → Flat → Type 0) → P x y → ((a b : Flat) → NextAlong y l e a b → P a b) → (a b : Flat) → NextAlong x (y ∷ l) e a b → P a b
      both P h r a b (inl k) = at-ends P x y h a b k
      both P h r a b (inr k) = r a b k

      go : Side p w x y → Firsts y l e → Firsts x (y ∷ l) e
      go (never n) (not_met r) = not_met (both (Never p w) n r)
      go (never n) (met s m us um a b k h r) = met s m us um a b (inr k) h (both (Until p w s m) (always_until s m x y n) r)
      go (first s m us um h n) (not_met r) =
          met s m us um x y (inl (refl, refl)) h (both (Until p w s m) n (λ a b k. always_until s m a b (r a b k)))
      go (first s m us um h n) (met s₂ m₂ us₂ um₂ a b k h₂ r) = pick (which (s *ℤ m₂ -ℤ s₂ *ℤ m))
        where
          pick : Up (s *ℤ m₂ -ℤ s₂ *ℤ m) ⊎ Nn (neg_ℤ (s *ℤ m₂ -ℤ s₂ *ℤ m)) → Firsts x (y ∷ l) e
          pick (inl q) =
              met s₂ m₂ us₂ um₂ a b (inr k) h₂ (both (Until p w s₂ m₂) (sooner s₂ m₂ s m x y um₂ um (up_nn q) n) r)
          pick (inr q) =
              met s m us um x y (inl (refl, refl)) h (both (Until p w s m) n (λ c d t. sooner s m s₂ m₂ c d um um₂
              (nn_is (ring (s ∷ m ∷ s₂ ∷ m₂ ∷ []) (neg (var 0 ⊗ var 3 ⊖ var 2 ⊗ var 1)) (var 2 ⊗ var 1 ⊖ var 0 ⊗ var 3) tt) q) (r c d t)))

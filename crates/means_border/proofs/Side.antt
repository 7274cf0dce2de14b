-- One side along a line from a point that is not on it: it is never met, or first met at a fraction.
use mathlib.Core.Path.{◌≡◌, ◌∙◌, ap}
use mathlib.Core.List.{List, [], ◌∷◌}
use lib.IntN.{ℤ, pos, neg_ℤ, ◌+ℤ◌, ◌-ℤ◌, ◌*ℤ◌}
use Rattle.exact.proofs.Ring.{Expr, var, ◌⊕◌, ◌⊖◌, ◌⊗◌, ring}
use Rattle.paper.specs.declared.Flat.{Flat}
use Rattle.means_area.specs.Flats.{Up, Nn, twice_area}
use Rattle.means_area.proofs.Flats.Signs.{nn_is, off}
use Rattle.means_area.proofs.Flats.Turns.{u_e, v_e, tE, flip}
use Rattle.means_inside.specs.Beams.{facing, Off}
use Rattle.means_inside.specs.Means.{big}
use Rattle.means_inside.proofs.Ears.{off_back}
use Rattle.means_corner.specs.Ways.{ahead_by}

module _ (p w : Flat) where
  -- across and along the direction
  abbrev pub across : Flat → ℤ
  across a = w.u *ℤ (a.v -ℤ p.v) -ℤ w.v *ℤ (a.u -ℤ p.u)

  abbrev pub ahead : Flat → ℤ
  ahead a = w.u *ℤ (a.u -ℤ p.u) +ℤ w.v *ℤ (a.v -ℤ p.v)

  abbrev pub size : ℤ
  size = w.u *ℤ w.u +ℤ w.v *ℤ w.v

  -- the side from a to b at the fraction s / m: it is not met, or it is
  abbrev pub Miss : ℤ → ℤ → Flat → Flat → Type 0
  Miss s m a b = Off (ahead_by p w s m) (big m a) (big m b)

  abbrev pub Hit : ℤ → ℤ → Flat → Flat → Type 0
  Hit s m a b = (twice_area (big m a) (big m b) (ahead_by p w s m) ≡ pos 0) × Nn (neg_ℤ (facing (ahead_by p w s m) (big m a) (big m b)))

  abbrev pub Never : Flat → Flat → Type 0
  Never a b = (s m : ℤ) → Nn s → Up m → Miss s m a b

  -- before the fraction s / m
  abbrev pub Until : ℤ → ℤ → Flat → Flat → Type 0
  Until s m a b = (s' m' : ℤ) → Nn s' → Up m' → Up (s *ℤ m' -ℤ s' *ℤ m) → Miss s' m' a b

  pub data Side (a b : Flat) : Type 0 where
    never : Never a b → Side a b
    first : (s m : ℤ) → Up s → Up m → Hit s m a b → Until s m a b → Side a b

  -- ---- identities
  abbrev ρ : ℤ → ℤ → Flat → Flat → List ℤ
  ρ s m a b = m ∷ p.u ∷ p.v ∷ w.u ∷ w.v ∷ a.u ∷ a.v ∷ b.u ∷ b.v ∷ s ∷ []

  abbrev x_e : Expr
  x_e = var 0 ⊗ u_e 0 ⊕ var 9 ⊗ u_e 1

  abbrev y_e : Expr
  y_e = var 0 ⊗ v_e 0 ⊕ var 9 ⊗ v_e 1

  abbrev turn_e : Expr
  turn_e = (var 0 ⊗ u_e 3 ⊖ var 0 ⊗ u_e 2) ⊗ (y_e ⊖ var 0 ⊗ v_e 2) ⊖ (var 0 ⊗ v_e 3 ⊖ var 0 ⊗ v_e 2) ⊗ (x_e ⊖ var 0 ⊗ u_e 2)

  abbrev face_e : Expr
  face_e = (var 0 ⊗ u_e 2 ⊖ x_e) ⊗ (var 0 ⊗ u_e 3 ⊖ x_e) ⊕ (var 0 ⊗ v_e 2 ⊖ y_e) ⊗ (var 0 ⊗ v_e 3 ⊖ y_e)

  abbrev across_e : (a : Prim.Native.Nat.ℕ) → Expr
  across_e a = u_e 1 ⊗ (v_e a ⊖ v_e 0) ⊖ v_e 1 ⊗ (u_e a ⊖ u_e 0)

  abbrev ahead_e : (a : Prim.Native.Nat.ℕ) → Expr
  ahead_e a = u_e 1 ⊗ (u_e a ⊖ u_e 0) ⊕ v_e 1 ⊗ (v_e a ⊖ v_e 0)

  abbrev size_e : Expr
  size_e = u_e 1 ⊗ u_e 1 ⊕ v_e 1 ⊗ v_e 1

  -- how far a is ahead of the point at s / m
  abbrev pub left : ℤ → ℤ → Flat → ℤ
  left s m a = m *ℤ ahead a -ℤ s *ℤ size

  abbrev left_e : (a : Prim.Native.Nat.ℕ) → Expr
  left_e a = var 0 ⊗ ahead_e a ⊖ var 9 ⊗ size_e

  pub turn_at_lem : (s m : ℤ) (a b : Flat)
      → twice_area (big m a) (big m b) (ahead_by p w s m) ≡ m *ℤ (m *ℤ twice_area a b p -ℤ s *ℤ (across b -ℤ across a))
  unfolding twice_area
  turn_at_lem s m a b = ring (ρ s m a b) turn_e (var 0 ⊗ (var 0 ⊗ tE 2 3 0 ⊖ var 9 ⊗ (across_e 3 ⊖ across_e 2))) tt

  pub turn_by : (s m : ℤ) (a b : Flat)
      → size *ℤ twice_area (big m a) (big m b) (ahead_by p w s m) ≡ m *ℤ (left s m a *ℤ across b -ℤ across a *ℤ left s m b)
  unfolding twice_area
  turn_by s m a b = ring (ρ s m a b) (size_e ⊗ turn_e) (var 0 ⊗ (left_e 2 ⊗ across_e 3 ⊖ across_e 2 ⊗ left_e 3)) tt

  pub face_by : (s m : ℤ) (a b : Flat)
      → size *ℤ facing (ahead_by p w s m) (big m a) (big m b) ≡ left s m a *ℤ left s m b +ℤ (m *ℤ m) *ℤ (across a *ℤ across b)
  unfolding facing
  face_by s m a b = ring (ρ s m a b) (size_e ⊗ face_e) (left_e 2 ⊗ left_e 3 ⊕ (var 0 ⊗ var 0) ⊗ (across_e 2 ⊗ across_e 3)) tt

  face_back : (s m : ℤ) (a b : Flat) → facing (ahead_by p w s m) (big m a) (big m b) ≡ facing (ahead_by p w s m) (big m b) (big m a)
  unfolding facing
  face_back s m a b =
      ring (ρ s m a b) face_e ((var 0 ⊗ u_e 3 ⊖ x_e) ⊗ (var 0 ⊗ u_e 2 ⊖ x_e) ⊕ (var 0 ⊗ v_e 3 ⊖ y_e) ⊗ (var 0 ⊗ v_e 2 ⊖ y_e)) tt

  -- ---- from b to a
  pub miss_back : (s m : ℤ) (a b : Flat) → Miss s m a b → Miss s m b a
  miss_back s m a b o = off_back (ahead_by p w s m) (big m a) (big m b) o

  pub hit_back : (s m : ℤ) (a b : Flat) → Hit s m a b → Hit s m b a
  hit_back s m a b h =
      (flip (big m b) (big m a) (ahead_by p w s m) ∙ ap neg_ℤ h.0, nn_is (ap neg_ℤ (face_back s m a b)) h.1)

  pub side_back : (a b : Flat) → Side a b → Side b a
  side_back a b (never f) = never (λ s m hs hm. miss_back s m a b (f s m hs hm))
  side_back a b (first s m us um h f) =
      first s m us um (hit_back s m a b h) (λ s' m' hs hm k. miss_back s' m' a b (f s' m' hs hm k))

  pub hit_miss : (s m : ℤ) (a b : Flat) → Hit s m a b → Miss s m a b → ⊥
  hit_miss s m a b h o = off (o h.0) h.1

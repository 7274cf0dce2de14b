-- A triangle v a b and its points: the places of a point x in it are the turns a b x, b v x and v a x, whose sum is the turn v a b. The
-- identities
-- between turns and heights that the proofs use, each by one call of `ring`.
use mathlib.Core.Path.{◌≡◌}
use mathlib.Core.List.{List, [], ◌∷◌}
use Prim.Native.Nat.{ℕ, zero, suc}
use lib.IntN.{ℤ, pos, neg_ℤ, ◌+ℤ◌, ◌-ℤ◌, ◌*ℤ◌}
use Rattle.exact.proofs.Ring.{Expr, var, con, ◌⊕◌, ◌⊖◌, ◌⊗◌, neg, ring}
use Rattle.exact.proofs.Order.{ring_with}
use Rattle.paper.specs.declared.Flat.{Flat}
use Rattle.means_area.specs.Flats.{Up, Nn, twice_area, height}

-- x is in the triangle v a b, and on none of the lines of v
pub record In (v a b x : Flat) : Type 0 where
  pub far : Nn (twice_area a b x)
  pub by_a : Up (twice_area b v x)
  pub by_b : Up (twice_area v a x)

-- ---- polynomials in the coordinates of points: variable 0 is m, then two for each point
abbrev pub coords : List Flat → List ℤ
coords [] = []
coords (p ∷ ps) = p.u ∷ p.v ∷ coords ps

abbrev pub env : ℤ → List Flat → List ℤ
env m ps = m ∷ coords ps

abbrev pub u_e : ℕ → Expr
u_e zero = var 1
u_e (suc zero) = var 3
u_e (suc (suc zero)) = var 5
u_e (suc (suc (suc zero))) = var 7
u_e (suc (suc (suc (suc zero)))) = var 9
u_e (suc (suc (suc (suc (suc n))))) = var 11

abbrev pub v_e : ℕ → Expr
v_e zero = var 2
v_e (suc zero) = var 4
v_e (suc (suc zero)) = var 6
v_e (suc (suc (suc zero))) = var 8
v_e (suc (suc (suc (suc zero)))) = var 10
v_e (suc (suc (suc (suc (suc n))))) = var 12

abbrev pub tE : ℕ → ℕ → ℕ → Expr
tE a b c = (u_e b ⊖ u_e a) ⊗ (v_e c ⊖ v_e a) ⊖ (v_e b ⊖ v_e a) ⊗ (u_e c ⊖ u_e a)

abbrev pub h_e : ℕ → Expr
h_e p = var 0 ⊗ u_e p ⊕ v_e p

-- ---- turns of the same three points
pub spin : (a b c : Flat) → twice_area a b c ≡ twice_area b c a
unfolding twice_area
spin a b c = ring (env (pos 0) (a ∷ b ∷ c ∷ [])) (tE 0 1 2) (tE 1 2 0) tt

pub flip : (a b c : Flat) → twice_area a b c ≡ neg_ℤ (twice_area b a c)
unfolding twice_area
flip a b c = ring (env (pos 0) (a ∷ b ∷ c ∷ [])) (tE 0 1 2) (neg (tE 1 0 2)) tt

pub flip_last : (a b c : Flat) → twice_area a b c ≡ neg_ℤ (twice_area a c b)
unfolding twice_area
flip_last a b c = ring (env (pos 0) (a ∷ b ∷ c ∷ [])) (tE 0 1 2) (neg (tE 0 2 1)) tt

pub flat-first : (a b : Flat) → twice_area a b a ≡ pos 0
unfolding twice_area
flat-first a b = ring (env (pos 0) (a ∷ b ∷ [])) (tE 0 1 0) (con (pos 0)) tt

pub flat-second : (a b : Flat) → twice_area a b b ≡ pos 0
unfolding twice_area
flat-second a b = ring (env (pos 0) (a ∷ b ∷ [])) (tE 0 1 1) (con (pos 0)) tt

-- ---- places in the triangle v a b
pub sum_is : (v a b x : Flat) → twice_area a b x +ℤ twice_area b v x +ℤ twice_area v a x ≡ twice_area v a b
unfolding twice_area
sum_is v a b x = ring (env (pos 0) (v ∷ a ∷ b ∷ x ∷ [])) (tE 1 2 3 ⊕ tE 2 0 3 ⊕ tE 0 1 3) (tE 0 1 2) tt

pub low_v : (m : ℤ) (v a b x : Flat) → twice_area v a b *ℤ (height m x -ℤ height m v) ≡ twice_area b v x *ℤ (height m a -ℤ height m v) +ℤ twice_area v a
    x *ℤ (height m b -ℤ height m v)
unfolding twice_area height
low_v m v a b x = ring (env m (v ∷ a ∷ b ∷ x ∷ [])) (tE 0 1 2 ⊗ (h_e 3 ⊖ h_e 0)) (tE 2 0 3 ⊗ (h_e 1 ⊖ h_e 0) ⊕ tE 0 1 3 ⊗ (h_e 2 ⊖ h_e 0)) tt

pub low_up : (m : ℤ) (v a b x : Flat) → twice_area v a b *ℤ (height m v -ℤ height m x) ≡ neg_ℤ (twice_area b v x) *ℤ (height m a -ℤ height m v) +ℤ neg_ℤ
    (twice_area v a x) *ℤ (height m b -ℤ height m v)
unfolding twice_area height
low_up m v a b x =
    ring (env m (v ∷ a ∷ b ∷ x ∷ [])) (tE 0 1 2 ⊗ (h_e 0 ⊖ h_e 3)) (neg (tE 2 0 3) ⊗ (h_e 1 ⊖ h_e 0) ⊕ neg (tE 0 1 3) ⊗ (h_e 2 ⊖ h_e 0)) tt

pub low_a : (m : ℤ) (v a b x : Flat) → twice_area v a b *ℤ (height m a -ℤ height m x) ≡ twice_area a b x *ℤ (height m a -ℤ height m v) +ℤ neg_ℤ
    (twice_area v a x) *ℤ (height m b -ℤ height m a)
unfolding twice_area height
low_a m v a b x =
    ring (env m (v ∷ a ∷ b ∷ x ∷ [])) (tE 0 1 2 ⊗ (h_e 1 ⊖ h_e 3)) (tE 1 2 3 ⊗ (h_e 1 ⊖ h_e 0) ⊕ neg (tE 0 1 3) ⊗ (h_e 2 ⊖ h_e 1)) tt

pub low_b : (m : ℤ) (v a b x : Flat) → twice_area v a b *ℤ (height m b -ℤ height m x) ≡ twice_area a b x *ℤ (height m b -ℤ height m v) +ℤ neg_ℤ
    (twice_area b v x) *ℤ (height m a -ℤ height m b)
unfolding twice_area height
low_b m v a b x =
    ring (env m (v ∷ a ∷ b ∷ x ∷ [])) (tE 0 1 2 ⊗ (h_e 2 ⊖ h_e 3)) (tE 1 2 3 ⊗ (h_e 2 ⊖ h_e 0) ⊕ neg (tE 2 0 3) ⊗ (h_e 1 ⊖ h_e 2)) tt

pub place_u : (v a b x : Flat) → twice_area v a b *ℤ (x.u -ℤ v.u) ≡ twice_area b v x *ℤ (a.u -ℤ v.u) +ℤ twice_area v a x *ℤ (b.u -ℤ v.u)
unfolding twice_area
place_u v a b x =
    ring (env (pos 0) (v ∷ a ∷ b ∷ x ∷ [])) (tE 0 1 2 ⊗ (u_e 3 ⊖ u_e 0)) (tE 2 0 3 ⊗ (u_e 1 ⊖ u_e 0) ⊕ tE 0 1 3 ⊗ (u_e 2 ⊖ u_e 0)) tt

pub place_v : (v a b x : Flat) → twice_area v a b *ℤ (x.v -ℤ v.v) ≡ twice_area b v x *ℤ (a.v -ℤ v.v) +ℤ twice_area v a x *ℤ (b.v -ℤ v.v)
unfolding twice_area
place_v v a b x =
    ring (env (pos 0) (v ∷ a ∷ b ∷ x ∷ [])) (tE 0 1 2 ⊗ (v_e 3 ⊖ v_e 0)) (tE 2 0 3 ⊗ (v_e 1 ⊖ v_e 0) ⊕ tE 0 1 3 ⊗ (v_e 2 ⊖ v_e 0)) tt

pub sum-neg : (v a b x : Flat) → twice_area b a x +ℤ neg_ℤ (twice_area b v x) +ℤ neg_ℤ (twice_area v a x) ≡ neg_ℤ (twice_area v a b)
unfolding twice_area
sum-neg v a b x = ring (env (pos 0) (v ∷ a ∷ b ∷ x ∷ [])) (tE 2 1 3 ⊕ neg (tE 2 0 3) ⊕ neg (tE 0 1 3)) (neg (tE 0 1 2)) tt

-- ---- a link p q that crosses a b: the places of p and of q
module _ (v a b p q : Flat) where
  abbrev ρ : List ℤ
  ρ = env (pos 0) (v ∷ a ∷ b ∷ p ∷ q ∷ [])

  pub line_pa : twice_area q p a *ℤ twice_area b v p ≡ twice_area a b p *ℤ twice_area p q v +ℤ twice_area v a p *ℤ twice_area p q b
  unfolding twice_area
  line_pa = ring ρ (tE 4 3 1 ⊗ tE 2 0 3) (tE 1 2 3 ⊗ tE 3 4 0 ⊕ tE 0 1 3 ⊗ tE 3 4 2) tt

  pub line_pa' : twice_area q p a *ℤ neg_ℤ (twice_area b v p) ≡ twice_area a b p *ℤ twice_area q p v +ℤ neg_ℤ (twice_area v a p) *ℤ twice_area p q b
  unfolding twice_area
  line_pa' = ring ρ (tE 4 3 1 ⊗ neg (tE 2 0 3)) (tE 1 2 3 ⊗ tE 4 3 0 ⊕ neg (tE 0 1 3) ⊗ tE 3 4 2) tt

  pub line_pb : twice_area p q b *ℤ twice_area v a p ≡ twice_area a b p *ℤ twice_area q p v +ℤ twice_area b v p *ℤ twice_area q p a
  unfolding twice_area
  line_pb = ring ρ (tE 3 4 2 ⊗ tE 0 1 3) (tE 1 2 3 ⊗ tE 4 3 0 ⊕ tE 2 0 3 ⊗ tE 4 3 1) tt

  pub line_qa' : twice_area q p a *ℤ neg_ℤ (twice_area b v q) ≡ twice_area b a q *ℤ twice_area p q v +ℤ neg_ℤ (twice_area v a q) *ℤ twice_area p q b
  unfolding twice_area
  line_qa' = ring ρ (tE 4 3 1 ⊗ neg (tE 2 0 4)) (tE 2 1 4 ⊗ tE 3 4 0 ⊕ neg (tE 0 1 4) ⊗ tE 3 4 2) tt

  pub line_qb' : twice_area p q b *ℤ neg_ℤ (twice_area v a q) ≡ twice_area b a q *ℤ twice_area q p v +ℤ neg_ℤ (twice_area b v q) *ℤ twice_area q p a
  unfolding twice_area
  line_qb' = ring ρ (tE 3 4 2 ⊗ neg (tE 0 1 4)) (tE 2 1 4 ⊗ tE 4 3 0 ⊕ neg (tE 2 0 4) ⊗ tE 4 3 1) tt

-- ---- a link p q that crosses v w
module _ (v a b w p q : Flat) where
  abbrev σ : List ℤ
  σ = env (pos 0) (v ∷ a ∷ b ∷ w ∷ p ∷ q ∷ [])

  -- p's place is further from a b than w's
  pub over_p : (twice_area w v q +ℤ twice_area v w p) *ℤ (twice_area a b p -ℤ twice_area a b w) ≡ twice_area p q w *ℤ (twice_area b v w +ℤ twice_area v a w) +ℤ twice_area v w
      p *ℤ (twice_area a b p -ℤ twice_area a b q)
  unfolding twice_area
  over_p = ring σ ((tE 3 0 5 ⊕ tE 0 3 4) ⊗ (tE 1 2 4 ⊖ tE 1 2 3)) (tE 4 5 3 ⊗ (tE 2 0 3 ⊕ tE 0 1 3) ⊕ tE 0 3 4 ⊗ (tE 1 2 4 ⊖ tE 1 2 5)) tt

  pub over_q : (twice_area w v q +ℤ twice_area v w p) *ℤ (twice_area a b q -ℤ twice_area a b w) ≡ twice_area p q w *ℤ (twice_area b v w +ℤ twice_area v a w) +ℤ twice_area w v
      q *ℤ (twice_area a b q -ℤ twice_area a b p)
  unfolding twice_area
  over_q = ring σ ((tE 3 0 5 ⊕ tE 0 3 4) ⊗ (tE 1 2 5 ⊖ tE 1 2 3)) (tE 4 5 3 ⊗ (tE 2 0 3 ⊕ tE 0 1 3) ⊕ tE 3 0 5 ⊗ (tE 1 2 5 ⊖ tE 1 2 4)) tt

  -- the other end's place
  pub other_q : twice_area v w p *ℤ twice_area b v q ≡ twice_area q p v *ℤ twice_area b v w +ℤ twice_area w v q *ℤ neg_ℤ (twice_area b v p)
  unfolding twice_area
  other_q = ring σ (tE 0 3 4 ⊗ tE 2 0 5) (tE 5 4 0 ⊗ tE 2 0 3 ⊕ tE 3 0 5 ⊗ neg (tE 2 0 4)) tt

  pub other_p : twice_area w v q *ℤ twice_area v a p ≡ twice_area q p v *ℤ twice_area v a w +ℤ twice_area v w p *ℤ neg_ℤ (twice_area v a q)
  unfolding twice_area
  other_p = ring σ (tE 3 0 5 ⊗ tE 0 1 4) (tE 5 4 0 ⊗ tE 0 1 3 ⊕ tE 0 3 4 ⊗ neg (tE 0 1 5)) tt

  -- b, or a, is to the left of p q
  pub left_b : (twice_area b v w +ℤ twice_area v a w) *ℤ twice_area p q b ≡ twice_area v a b *ℤ twice_area p q w +ℤ twice_area a b w *ℤ twice_area q p v +ℤ twice_area b v
      w *ℤ (twice_area a b p -ℤ twice_area a b q)
  unfolding twice_area
  left_b = ring σ ((tE 2 0 3 ⊕ tE 0 1 3) ⊗ tE 4 5 2) (tE 0 1 2 ⊗ tE 4 5 3 ⊕ tE 1 2 3 ⊗ tE 5 4 0 ⊕ tE 2 0 3 ⊗ (tE 1 2 4 ⊖ tE 1 2 5)) tt

  pub left_a : (twice_area b v w +ℤ twice_area v a w) *ℤ twice_area p q a ≡ twice_area v a b *ℤ twice_area p q w +ℤ twice_area a b w *ℤ twice_area q p v +ℤ twice_area v a
      w *ℤ (twice_area a b q -ℤ twice_area a b p)
  unfolding twice_area
  left_a = ring σ ((tE 2 0 3 ⊕ tE 0 1 3) ⊗ tE 4 5 1) (tE 0 1 2 ⊗ tE 4 5 3 ⊕ tE 1 2 3 ⊗ tE 5 4 0 ⊕ tE 0 1 3 ⊗ (tE 1 2 5 ⊖ tE 1 2 4)) tt

-- the angles at v
pub angle_p : (v a b w p : Flat) → twice_area b v w *ℤ twice_area v a p ≡ twice_area v a b *ℤ twice_area v w p +ℤ twice_area v a w *ℤ twice_area b v p
unfolding twice_area
angle_p v a b w p = ring (env (pos 0) (v ∷ a ∷ b ∷ w ∷ p ∷ [])) (tE 2 0 3 ⊗ tE 0 1 4) (tE 0 1 2 ⊗ tE 0 3 4 ⊕ tE 0 1 3 ⊗ tE 2 0 4) tt

pub angle_q : (v a b w q : Flat) → twice_area v a w *ℤ twice_area b v q ≡ twice_area v a b *ℤ twice_area w v q +ℤ twice_area b v w *ℤ twice_area v a q
unfolding twice_area
angle_q v a b w q = ring (env (pos 0) (v ∷ a ∷ b ∷ w ∷ q ∷ [])) (tE 0 1 3 ⊗ tE 2 0 4) (tE 0 1 2 ⊗ tE 3 0 4 ⊕ tE 2 0 3 ⊗ tE 0 1 4) tt

-- a point r in the line from v to w
module _ (m : ℤ) (v a b w r : Flat) (e : twice_area v w r ≡ pos 0) where
  abbrev τ : List ℤ
  τ = env m (v ∷ a ∷ b ∷ w ∷ r ∷ [])

  pub along_a : (height m w -ℤ height m v) *ℤ twice_area b v r ≡ (height m r -ℤ height m v) *ℤ twice_area b v w
  unfolding twice_area height
  along_a = ring_with τ ((h_e 3 ⊖ h_e 0) ⊗ tE 2 0 4) ((h_e 4 ⊖ h_e 0) ⊗ tE 2 0 3) (h_e 0 ⊖ h_e 2) (tE 0 3 4) (con (pos 0)) tt e

  pub along_b : (height m w -ℤ height m v) *ℤ twice_area v a r ≡ (height m r -ℤ height m v) *ℤ twice_area v a w
  unfolding twice_area height
  along_b = ring_with τ ((h_e 3 ⊖ h_e 0) ⊗ tE 0 1 4) ((h_e 4 ⊖ h_e 0) ⊗ tE 0 1 3) (h_e 1 ⊖ h_e 0) (tE 0 3 4) (con (pos 0)) tt e

  pub along-far : (height m w -ℤ height m v) *ℤ (twice_area a b r -ℤ twice_area a b w) ≡ (height m w -ℤ height m r) *ℤ (twice_area b v w +ℤ twice_area v a w)
  unfolding twice_area height
  along-far =
      ring_with τ ((h_e 3 ⊖ h_e 0) ⊗ (tE 1 2 4 ⊖ tE 1 2 3)) ((h_e 3 ⊖ h_e 4) ⊗ (tE 2 0 3 ⊕ tE 0 1 3)) (h_e 2 ⊖ h_e 1) (tE 0 3 4) (con (pos 0))
      tt e

-- a point r in the line from a to b
module _ (m : ℤ) (v a b r : Flat) (e : twice_area a b r ≡ pos 0) where
  pub base_a : (height m b -ℤ height m a) *ℤ twice_area b v r ≡ (height m b -ℤ height m r) *ℤ twice_area v a b
  unfolding twice_area height
  base_a =
      ring_with (env m (v ∷ a ∷ b ∷ r ∷ [])) ((h_e 2 ⊖ h_e 1) ⊗ tE 2 0 3) ((h_e 2 ⊖ h_e 3) ⊗ tE 0 1 2) (h_e 0 ⊖ h_e 2) (tE 1 2 3) (con (pos 0))
      tt e

  pub base_b : (height m b -ℤ height m a) *ℤ twice_area v a r ≡ (height m r -ℤ height m a) *ℤ twice_area v a b
  unfolding twice_area height
  base_b =
      ring_with (env m (v ∷ a ∷ b ∷ r ∷ [])) ((h_e 2 ⊖ h_e 1) ⊗ tE 0 1 3) ((h_e 3 ⊖ h_e 1) ⊗ tE 0 1 2) (h_e 1 ⊖ h_e 0) (tE 1 2 3) (con (pos 0))
      tt e

module _ (m : ℤ) (v a b r : Flat) (e : twice_area b a r ≡ pos 0) where
  pub back_a : (height m a -ℤ height m b) *ℤ twice_area b v r ≡ (height m r -ℤ height m b) *ℤ twice_area v a b
  unfolding twice_area height
  back_a =
      ring_with (env m (v ∷ a ∷ b ∷ r ∷ [])) ((h_e 1 ⊖ h_e 2) ⊗ tE 2 0 3) ((h_e 3 ⊖ h_e 2) ⊗ tE 0 1 2) (h_e 0 ⊖ h_e 2) (tE 2 1 3) (con (pos 0))
      tt e

  pub back_b : (height m a -ℤ height m b) *ℤ twice_area v a r ≡ (height m a -ℤ height m r) *ℤ twice_area v a b
  unfolding twice_area height
  back_b =
      ring_with (env m (v ∷ a ∷ b ∷ r ∷ [])) ((h_e 1 ⊖ h_e 2) ⊗ tE 0 1 3) ((h_e 1 ⊖ h_e 3) ⊗ tE 0 1 2) (h_e 1 ⊖ h_e 0) (tE 2 1 3) (con (pos 0))
      tt e

-- A triangle and a point: an odd number of sides is met only from within; and a point within on neither side at v is In.
use mathlib.Core.Path.{◌≡◌, refl, sym, ◌∙◌, ap}
use mathlib.Core.Bool.{Bool, true, false, true≢false}
use mathlib.Core.Logic.{◌⊎◌, inl, inr}
use mathlib.Core.List.{List, [], ◌∷◌}
use lib.IntN.{ℤ, pos, neg_ℤ, ◌+ℤ◌, ◌-ℤ◌, ◌*ℤ◌}
use Prim.Native.Nat.{ℕ}
use Rattle.exact.proofs.Laws.{eq_of_sub}
use Rattle.exact.proofs.Ring.{Expr, var, con, ◌⊕◌, ◌⊖◌, ◌⊗◌, neg, ring}
use Rattle.exact.proofs.Order.{ring_with, mul-pos, mul_nonneg, add_nonneg, square_nonneg, sum-zero}
use Rattle.exact.proofs.Signs.{square_zero}
use Rattle.paper.specs.Polygon.{meets_ray}
use Rattle.paper.specs.declared.Flat.{Flat}
use Rattle.means_area.specs.Rings.{Of}
use Rattle.means_area.specs.Flats.{Up, Nn, twice_area}
use Rattle.means_area.proofs.Flats.Signs.{up_is, nn_is, up_nn, nn_up, off, zero_off, up_else, twice, which, nn_out}
use Rattle.means_area.proofs.Flats.Turns.{In, env, u_e, v_e, tE, spin, flip}
use Rattle.means_area.proofs.Flats.Chains.{link_of, link_back}
use Rattle.means_inside.specs.Beams.{round, right, beam, facing, Off, OffEverySide, east, odd}
use Rattle.means_inside.proofs.Parity.{silent}
use Rattle.means_inside.proofs.Beams.{low-is, low_no, every_ray}

abbrev pub f_e : ℕ → ℕ → ℕ → Expr
f_e p a b = (u_e a ⊖ u_e p) ⊗ (u_e b ⊖ u_e p) ⊕ (v_e a ⊖ v_e p) ⊗ (v_e b ⊖ v_e p)

-- ---- another point
two_zero : (x y : ℤ) → x *ℤ x +ℤ y *ℤ y ≡ pos 0 → (x ≡ pos 0) × (y ≡ pos 0)
two_zero x y e =
    let s = sum-zero (x *ℤ x) (y *ℤ y) (pos 0) (square_nonneg x) (square_nonneg y) (record { le = tt })
    (ring (x ∷ y ∷ []) (var 0 ⊗ var 0 ⊕ var 1 ⊗ var 1 ⊕ con (pos 0)) (var 0 ⊗ var 0 ⊕ var 1 ⊗ var 1) tt ∙ e) in
    (square_zero x s.0, square_zero y s.1)

pub self_nn : (p q : Flat) → Nn (facing p q q)
unfolding facing
self_nn p q = add_nonneg (square_nonneg (q.u -ℤ p.u)) (square_nonneg (q.v -ℤ p.v))

-- q is p, or not
pub self_zero : (p q : Flat) → facing p q q ≡ pos 0 → q ≡ p
unfolding facing
self_zero p q e =
    let z = two_zero (q.u -ℤ p.u) (q.v -ℤ p.v) e in
    λ i. record { u = eq_of_sub q.u p.u z.0 i; v = eq_of_sub q.v p.v z.1 i }

pub facing-end : (p b : Flat) → facing p p b ≡ pos 0
unfolding facing
facing-end p b = ring (env (pos 0) (p ∷ b ∷ [])) (f_e 0 0 1) (con (pos 0)) tt

pub self_up : (p q : Flat) → (q ≡ p → ⊥) → Up (facing p q q)
self_up p q n = up_else (λ e. n (self_zero p q e)) (λ k. off k (nn_is (twice (facing p q q)) (self_nn p q)))

pub moved : (p q z : Flat) → Up (twice_area p q z) → Up (facing p q q)
unfolding twice_area
moved p q z k =
    self_up p q (λ e. zero_off (ap (λ (y : Flat). twice_area p y z) e ∙ ring (env (pos 0) (p ∷ z ∷ [])) (tE 0 0 1) (con (pos 0)) tt) k)

pub east_up : (p : Flat) → Up (facing p (east p) (east p))
unfolding facing
east_up p =
    up_is
    (ring (p.u ∷ p.v ∷ []) (con (pos 1))
    ((var 0 ⊕ con (pos 1) ⊖ var 0) ⊗ (var 0 ⊕ con (pos 1) ⊖ var 0) ⊕ (var 1 ⊖ var 1) ⊗ (var 1 ⊖ var 1)) tt) (record { lt = tt })

-- the definition's ray, and any other
pub by_ray : (p q : Flat) (g : List Flat) → OffEverySide p g → Up (facing p q q) → odd p g ≡ round (beam p q) g
by_ray p q g c k = every_ray p (east p) q (east_up p) k g c

-- all corners to one side of a ray's line, or in it to the right
beside : (s : Bool) (p q : Flat) (g : List Flat) → ((z : Flat) → Of z g → right p q z ≡ s) → round (beam p q) g ≡ false
unfolding beam
beside s p q [] h = refl
beside s p q (x ∷ l) h =
    silent (beam p q) x l x
    (λ a b c. (λ i. meets_ray (h a (link_of (x ∷ l) a b c) i) (h b (link_of (x ∷ l) b a (link_back (x ∷ l) a b c)) i) (twice_area a b p))
    ∙ both s (twice_area a b p))
  where
    both : (s : Bool) (t : ℤ) → meets_ray s s t ≡ false
    both true t = unfold meets_ray in refl
    both false t = unfold meets_ray in refl

-- none to the left
pub not_left : (p q : Flat) (g : List Flat) → ((z : Flat) → Of z g → Nn (neg_ℤ (twice_area p q z))) → round (beam p q) g ≡ false
unfolding right
not_left p q g h = beside true p q g (λ z o. low-is (twice_area p q z) (h z o))

-- all to the left
aside : (p q : Flat) (g : List Flat) → ((z : Flat) → Of z g → Up (twice_area p q z)) → round (beam p q) g ≡ false
unfolding right
aside p q g h = beside false p q g (λ z o. low_no (twice_area p q z) (h z o))

-- a side to the left of a ray's line does not touch p
left_is : (p q a b : Flat) → twice_area a b p ≡ pos 0 → facing p b b *ℤ twice_area p q a ≡ facing p a b *ℤ twice_area p q b
unfolding twice_area facing
left_is p q a b e =
    ring_with (env (pos 0) (p ∷ q ∷ a ∷ b ∷ [])) (f_e 0 3 3 ⊗ tE 0 1 2) (f_e 0 2 3 ⊗ tE 0 1 3) (neg (f_e 0 1 3)) (tE 2 3 0) (con (pos 0)) tt
    e

pub left_off : (p q a b : Flat) → Up (twice_area p q a) → Up (twice_area p q b) → twice_area a b p ≡ pos 0 → Nn (neg_ℤ (facing p a b)) → ⊥
unfolding twice_area
left_off p q a b ha hb e f =
    let n : b ≡ p → ⊥ = λ z. zero_off (ap (twice_area p q) z ∙ ring (env (pos 0) (p ∷ q ∷ [])) (tE 0 1 0) (con (pos 0)) tt) hb in
    off (up_is (left_is p q a b e) (mul-pos (self_up p b n) ha))
    (nn_is (ring (facing p a b ∷ twice_area p q b ∷ []) (neg (var 0) ⊗ var 1) (neg (var 0 ⊗ var 1)) tt) (mul_nonneg f (up_nn hb)))

-- a point that has a line to one side of which all corners are
pub out : (p q z : Flat) (g : List Flat) → OffEverySide p g → Up (twice_area p q z) → ((z : Flat) → Of z g → Up (twice_area p q z)) → odd p g ≡ false
out p q z g c k h = by_ray p q g c (moved p q z k) ∙ aside p q g h

-- p and the direction from x to y
unfoldable pub shift : Flat → Flat → Flat → Flat
shift p x y = record { u = p.u +ℤ (y.u -ℤ x.u); v = p.v +ℤ (y.v -ℤ x.v) }

pub shift_is : (p x y z : Flat) → twice_area p (shift p x y) z ≡ twice_area x y z +ℤ neg_ℤ (twice_area x y p)
unfolding twice_area shift
shift_is p x y z =
    ring (env (pos 0) (p ∷ x ∷ y ∷ z ∷ []))
    (((u_e 0 ⊕ (u_e 2 ⊖ u_e 1)) ⊖ u_e 0) ⊗ (v_e 3 ⊖ v_e 0) ⊖ ((v_e 0 ⊕ (v_e 2 ⊖ v_e 1)) ⊖ v_e 0) ⊗ (u_e 3 ⊖ u_e 0)) (tE 1 2 3 ⊕ neg (tE 1 2 0)) tt

pub shift_up : (p x y : Flat) → (y ≡ x → ⊥) → Up (facing p (shift p x y) (shift p x y))
unfolding facing shift
shift_up p x y n =
    up_is
    (ring (env (pos 0) (p ∷ x ∷ y ∷ [])) (f_e 1 2 2)
    (((u_e 0 ⊕ (u_e 2 ⊖ u_e 1)) ⊖ u_e 0) ⊗ ((u_e 0 ⊕ (u_e 2 ⊖ u_e 1)) ⊖ u_e 0)
    ⊕ ((v_e 0 ⊕ (v_e 2 ⊖ v_e 1)) ⊖ v_e 0) ⊗ ((v_e 0 ⊕ (v_e 2 ⊖ v_e 1)) ⊖ v_e 0)) tt)
    (self_up x y n)

-- ---- the triangle
module _ (v a b p : Flat) (D : Up (twice_area v a b)) where
  -- beyond one of its sides
  beyond : (x y : Flat) → OffEverySide p (v ∷ a ∷ b ∷ []) → Nn (twice_area x y v) → Nn (twice_area x y a) → Nn (twice_area x y b) → odd p (v ∷ a ∷ b ∷ []) ≡ true
      → Nn (twice_area x y p)
  beyond x y c hv ha hb o = go (which (neg_ℤ (twice_area x y p)))
    where
      left : Up (neg_ℤ (twice_area x y p)) → (z : Flat) → Of z (v ∷ a ∷ b ∷ []) → Up (twice_area p (shift p x y) z)
      left k z (inl e) = up_is (sym (shift_is p x y z)) (nn_up (nn_is (ap (twice_area x y) (sym e)) hv) k)
      left k z (inr (inl e)) = up_is (sym (shift_is p x y z)) (nn_up (nn_is (ap (twice_area x y) (sym e)) ha) k)
      left k z (inr (inr (inl e))) = up_is (sym (shift_is p x y z)) (nn_up (nn_is (ap (twice_area x y) (sym e)) hb) k)
      left k z (inr (inr (inr e))) = absurd e

      go : Up (neg_ℤ (twice_area x y p)) ⊎ Nn (neg_ℤ (neg_ℤ (twice_area x y p))) → Nn (twice_area x y p)
      go (inl k) = absurd (true≢false (sym o ∙ out p (shift p x y) v (v ∷ a ∷ b ∷ []) c (left k v (inl refl)) (left k)))
      go (inr k) = nn_is (ring (twice_area x y p ∷ []) (neg (neg (var 0))) (var 0) tt) k

  zero_first : (x y : Flat) → Nn (twice_area x y x)
  unfolding twice_area
  zero_first x y = nn_is (ring (env (pos 0) (x ∷ y ∷ [])) (con (pos 0)) (tE 0 1 0) tt) (record { le = tt })

  zero_second : (x y : Flat) → Nn (twice_area x y y)
  unfolding twice_area
  zero_second x y = nn_is (ring (env (pos 0) (x ∷ y ∷ [])) (con (pos 0)) (tE 0 1 1) tt) (record { le = tt })

  pub odd-far : OffEverySide p (v ∷ a ∷ b ∷ []) → odd p (v ∷ a ∷ b ∷ []) ≡ true → Nn (twice_area a b p)
  odd-far c = beyond a b c (nn_is (spin v a b) (up_nn D)) (zero_first a b) (zero_second a b)

  pub odd_a : OffEverySide p (v ∷ a ∷ b ∷ []) → odd p (v ∷ a ∷ b ∷ []) ≡ true → Nn (twice_area b v p)
  odd_a c = beyond b v c (zero_second b v) (nn_is (spin v a b ∙ spin a b v) (up_nn D)) (zero_first b v)

  pub odd_b : OffEverySide p (v ∷ a ∷ b ∷ []) → odd p (v ∷ a ∷ b ∷ []) ≡ true → Nn (twice_area v a p)
  odd_b c = beyond v a c (zero_first v a) (zero_second v a) (up_nn D)

  -- a point of a side
  abbrev ρ : List ℤ
  ρ = env (pos 0) (v ∷ a ∷ b ∷ p ∷ [])

  on_va : twice_area v a p ≡ pos 0 → twice_area v a b *ℤ twice_area v a b *ℤ facing p v a ≡ neg_ℤ (twice_area b v p *ℤ twice_area a b p *ℤ facing v a a)
  unfolding twice_area facing
  on_va e = ring_with ρ (tE 0 1 2 ⊗ tE 0 1 2 ⊗ f_e 3 0 1) (neg (tE 2 0 3 ⊗ tE 1 2 3 ⊗ f_e 0 1 1))
      (neg (tE 2 0 3 ⊗ (f_e 0 1 1 ⊖ f_e 0 1 2) ⊕ tE 1 2 3 ⊗ f_e 0 1 2 ⊕ tE 0 1 3 ⊗ (f_e 0 1 2 ⊖ f_e 0 2 2))) (tE 0 1 3) (con (pos 0)) tt e

  on_vb : twice_area b v p ≡ pos 0 → twice_area v a b *ℤ twice_area v a b *ℤ facing p v b ≡ neg_ℤ (twice_area v a p *ℤ twice_area a b p *ℤ facing v b b)
  unfolding twice_area facing
  on_vb e = ring_with ρ (tE 0 1 2 ⊗ tE 0 1 2 ⊗ f_e 3 0 2) (neg (tE 0 1 3 ⊗ tE 1 2 3 ⊗ f_e 0 2 2))
      (neg (tE 0 1 3 ⊗ (f_e 0 2 2 ⊖ f_e 0 1 2) ⊕ tE 1 2 3 ⊗ f_e 0 1 2 ⊕ tE 2 0 3 ⊗ (f_e 0 1 2 ⊖ f_e 0 1 1))) (tE 2 0 3) (con (pos 0)) tt e

  -- within, and on neither side at v
  pub inn : Off p v a → Off p v b → Nn (twice_area a b p) → Nn (twice_area b v p) → Nn (twice_area v a p) → In v a b p
  inn oa ob far xa xb = record {
    far = far;
    by_a =
        up_else
        (λ e. off (up_is (on_vb e) (mul-pos (mul-pos D D) (ob (flip v b p ∙ ap neg_ℤ e))))
        (nn_is (twice (twice_area v a p *ℤ twice_area a b p *ℤ facing v b b)) (mul_nonneg (mul_nonneg xb far) (self_nn v b))))
        (λ k. off k (nn_is (twice (twice_area b v p)) xa));
    by_b =
        up_else
        (λ e. off (up_is (on_va e) (mul-pos (mul-pos D D) (oa e)))
        (nn_is (twice (twice_area b v p *ℤ twice_area a b p *ℤ facing v a a)) (mul_nonneg (mul_nonneg xa far) (self_nn v a))))
        (λ k. off k (nn_is (twice (twice_area v a p)) xb));
  }

  -- a point of the chord
  base_xa : twice_area a b p ≡ pos 0 → facing a b b *ℤ twice_area b v p ≡ twice_area v a b *ℤ (facing p b b +ℤ neg_ℤ (facing p a b))
  unfolding twice_area facing
  base_xa e = ring_with ρ (f_e 1 2 2 ⊗ tE 2 0 3) (tE 0 1 2 ⊗ (f_e 3 2 2 ⊕ neg (f_e 3 1 2))) (neg (f_e 2 1 0)) (tE 1 2 3) (con (pos 0)) tt e

  base_xb : twice_area a b p ≡ pos 0 → facing a b b *ℤ twice_area v a p ≡ twice_area v a b *ℤ (facing p a a +ℤ neg_ℤ (facing p a b))
  unfolding twice_area facing
  base_xb e = ring_with ρ (f_e 1 2 2 ⊗ tE 0 1 3) (tE 0 1 2 ⊗ (f_e 3 1 1 ⊕ neg (f_e 3 1 2))) (neg (f_e 1 2 0)) (tE 1 2 3) (con (pos 0)) tt e

  chord_up : Up (facing a b b)
  chord_up = moved a b v (up_is (spin v a b) D)

  -- on the chord: within
  pub base_a : twice_area a b p ≡ pos 0 → Nn (neg_ℤ (facing p a b)) → Nn (twice_area b v p)
  base_a e f = nn_out (facing a b b) chord_up (nn_is (sym (base_xa e)) (mul_nonneg (up_nn D) (add_nonneg (self_nn p b) f)))

  pub base_b : twice_area a b p ≡ pos 0 → Nn (neg_ℤ (facing p a b)) → Nn (twice_area v a p)
  base_b e f = nn_out (facing a b b) chord_up (nn_is (sym (base_xb e)) (mul_nonneg (up_nn D) (add_nonneg (self_nn p a) f)))

  pub onto : Off p v a → Off p v b → twice_area a b p ≡ pos 0 → Nn (neg_ℤ (facing p a b)) → In v a b p
  onto oa ob e f = inn oa ob (nn_is (sym e) (record { le = tt })) (base_a e f) (base_b e f)

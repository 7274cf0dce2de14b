-- Every ray from a point on no side meets the same parity of sides.
use mathlib.Core.Path.{◌≡◌, refl, sym, ◌∙◌, ap}
use mathlib.Core.Bool.{Bool, true, false, not, ◌&&◌, xor, true≢false}
use mathlib.Core.Logic.{◌⊎◌, inl, inr}
use mathlib.Core.List.{List, [], ◌∷◌}
use native.Mathlib.Omega.{arith}
use lib.IntN.{ℤ, pos, neg_ℤ, ◌+ℤ◌, ◌-ℤ◌, ◌*ℤ◌}
use lib.Signed.{le_z, ◌≤ℤ◌, ◌<ℤ◌, clash_ℤ}
use Rattle.lists.proofs.Truth.{never_true}
use Prim.Native.Nat.{ℕ}
use Rattle.exact.proofs.Ring.{Expr, var, con, ◌⊕◌, ◌⊖◌, ◌⊗◌, neg, ring}
use Rattle.exact.proofs.Linear.{le_by, lt_by, le_to, lt_to}
use Rattle.exact.proofs.Order.{ring_with, mul-pos, mul_nonneg, add_nonneg, square_nonneg}
use Rattle.exact.proofs.Signs.{lt_yes, lt_is, le_yes, le_is, lt-or-ge}
use Rattle.paper.specs.Points.{above, below}
use Rattle.paper.specs.Polygon.{meets_ray}
use Rattle.paper.specs.declared.Flat.{Flat}
use Rattle.means_area.specs.Flats.{Up, Nn, twice_area}
use Rattle.means_area.proofs.Flats.Signs.{up_is, nn_is, up_nn, off, zero_off, ways, nn_out}
use Rattle.means_area.proofs.Flats.Turns.{env, u_e, v_e, tE, flip_last}
use Rattle.means_inside.specs.Beams.{round, right, beam, facing, OffEverySide}
use Rattle.means_inside.proofs.Parity.{xor_self, potential}

-- ---- tests and facts

pub above_is : (t : ℤ) → Up t → above t ≡ true
unfolding above
above_is t h = lt_is h

pub above_no : (t : ℤ) → Nn (neg_ℤ t) → above t ≡ false
unfolding above
above_no t h = never_true (above t) (λ e. off {x = t} (lt_yes e) h)

pub below_is : (t : ℤ) → Up (neg_ℤ t) → below t ≡ true
unfolding below
below_is t h = let ρ = t ∷ [] in lt_is (lt_by ρ (var 0) (con (pos 0)) (omega (arith, lt_to ρ (con (pos 0)) (neg (var 0)) h)))

pub below_no : (t : ℤ) → Nn t → below t ≡ false
unfolding below
below_no t h = never_true (below t) (λ e. clash_ℤ (lt_yes e) h)

pub above_yes : (t : ℤ) → above t ≡ true → Up t
unfolding above
above_yes t e = lt_yes e

pub below_yes : (t : ℤ) → below t ≡ true → Up (neg_ℤ t)
unfolding below
below_yes t e = let ρ = t ∷ [] in lt_by ρ (con (pos 0)) (neg (var 0)) (omega (arith, lt_to ρ (var 0) (con (pos 0)) (lt_yes e)))

-- at most 0
pub low-is : (t : ℤ) → Nn (neg_ℤ t) → le_z t (pos 0) ≡ true
low-is t h = let ρ = t ∷ [] in le_is (le_by ρ (var 0) (con (pos 0)) (omega (arith, le_to ρ (con (pos 0)) (neg (var 0)) h)))

pub low_no : (t : ℤ) → Up t → le_z t (pos 0) ≡ false
low_no t h = never_true (le_z t (pos 0)) (λ e. clash_ℤ h (le_yes e))

pub yes_low : (t : ℤ) → le_z t (pos 0) ≡ true → Nn (neg_ℤ t)
yes_low t e = let ρ = t ∷ [] in le_by ρ (con (pos 0)) (neg (var 0)) (omega (arith, le_to ρ (var 0) (con (pos 0)) (le_yes e)))

pub no_low : (t : ℤ) → le_z t (pos 0) ≡ false → Up t
no_low t e = go (lt-or-ge (pos 0) t)
  where
    go : (pos 0 <ℤ t) ⊎ (t ≤ℤ pos 0) → Up t
    go (inl h) = h
    go (inr h) = absurd (true≢false (sym (le_is h) ∙ e))

-- ---- two rays, by numbers: A and B are the places of a and b to the first and to the second, κ the turn from the first to the second
abbrev pub sect : Bool → Bool → Bool
sect u v = v && not u

module _ (Aa Ab Ba Bb t κ : ℤ) (k : Up κ) (e : t *ℤ κ ≡ Aa *ℤ Bb -ℤ Ab *ℤ Ba) where
  abbrev ρ : List ℤ
  ρ = Aa ∷ Ab ∷ Ba ∷ Bb ∷ t ∷ κ ∷ []

  -- t by the signs of the two products
  t_nn : Nn (Aa *ℤ Bb) → Nn (neg_ℤ (Ab *ℤ Ba)) → Nn t
  t_nn x y = nn_out κ k (nn_is (ring ρ (var 4 ⊗ var 5) (var 5 ⊗ var 4) tt) (nn_is (sym e) (add_nonneg x y)))

  t_np : Nn (neg_ℤ (Aa *ℤ Bb)) → Nn (Ab *ℤ Ba) → Nn (neg_ℤ t)
  t_np x y =
      nn_out κ k
      (nn_is (ring ρ (neg (var 4 ⊗ var 5)) (var 5 ⊗ neg (var 4)) tt)
      (nn_is (ap neg_ℤ (sym e))
      (nn_is (ring ρ (neg (var 0 ⊗ var 3) ⊕ var 1 ⊗ var 2) (neg (var 0 ⊗ var 3 ⊖ var 1 ⊗ var 2)) tt) (add_nonneg x y))))

  -- products by signs
  nnp : (x y : ℤ) → Nn (neg_ℤ x) → Nn (neg_ℤ y) → Nn (x *ℤ y)
  nnp x y h l = nn_is (ring (x ∷ y ∷ []) (neg (var 0) ⊗ neg (var 1)) (var 0 ⊗ var 1) tt) (mul_nonneg h l)

  npn : (x y : ℤ) → Nn (neg_ℤ x) → Nn y → Nn (neg_ℤ (x *ℤ y))
  npn x y h l = nn_is (ring (x ∷ y ∷ []) (neg (var 0) ⊗ var 1) (neg (var 0 ⊗ var 1)) tt) (mul_nonneg h l)

  pnn : (x y : ℤ) → Nn x → Nn (neg_ℤ y) → Nn (neg_ℤ (x *ℤ y))
  pnn x y h l = nn_is (ring (x ∷ y ∷ []) (var 0 ⊗ neg (var 1)) (neg (var 0 ⊗ var 1)) tt) (mul_nonneg h l)

  up_of : Nn t → (t ≡ pos 0 → ⊥) → Up t
  up_of h n = go (ways t)
    where
      go : Up t ⊎ ((t ≡ pos 0) ⊎ Up (neg_ℤ t)) → Up t
      go (inl x) = x
      go (inr (inl x)) = absurd (n x)
      go (inr (inr x)) = absurd (off x (nn_is (ring ρ (var 4) (neg (neg (var 4))) tt) h))

  dn_of : Nn (neg_ℤ t) → (t ≡ pos 0 → ⊥) → Up (neg_ℤ t)
  dn_of h n = go (ways t)
    where
      go : Up t ⊎ ((t ≡ pos 0) ⊎ Up (neg_ℤ t)) → Up (neg_ℤ t)
      go (inl x) = absurd (off x h)
      go (inr (inl x)) = absurd (n x)
      go (inr (inr x)) = x

  either : (t ≡ pos 0 → ⊥) → xor (above t) (below t) ≡ true
  unfolding xor
  either n = go (ways t)
    where
      go : Up t ⊎ ((t ≡ pos 0) ⊎ Up (neg_ℤ t)) → xor (above t) (below t) ≡ true
      go (inl x) = λ i. xor (above_is t x i) (below_no t (up_nn x) i)
      go (inr (inl x)) = absurd (n x)
      go (inr (inr x)) = λ i. xor (above_no t (up_nn x) i) (below_is t x i)

  either' : (t ≡ pos 0 → ⊥) → xor (below t) (above t) ≡ true
  unfolding xor
  either' n = go (ways t)
    where
      go : Up t ⊎ ((t ≡ pos 0) ⊎ Up (neg_ℤ t)) → xor (below t) (above t) ≡ true
      go (inl x) = λ i. xor (below_no t (up_nn x) i) (above_is t x i)
      go (inr (inl x)) = absurd (n x)
      go (inr (inr x)) = λ i. xor (below_is t x i) (above_no t (up_nn x) i)

  module _ (sa : t ≡ pos 0 → le_z Aa (pos 0) ≡ le_z Ab (pos 0)) (sb : t ≡ pos 0 → le_z Ba (pos 0) ≡ le_z Bb (pos 0)) where
    bad : (x y : Bool) → x ≡ true → y ≡ false → x ≡ y → ⊥
    bad x y p q r = true≢false (sym p ∙ r ∙ q)

    bad' : (x y : Bool) → x ≡ false → y ≡ true → x ≡ y → ⊥
    bad' x y p q r = true≢false (sym q ∙ sym r ∙ p)

    cases : (ua ub va vb : Bool) → le_z Aa (pos 0) ≡ ua → le_z Ab (pos 0) ≡ ub → le_z Ba (pos 0) ≡ va → le_z Bb (pos 0) ≡ vb
        → xor (meets_ray ua ub t) (meets_ray va vb t) ≡ xor (sect ua va) (sect ub vb)
    unfolding xor meets_ray
    cases true true true true p q r s = refl
    cases true true false false p q r s = refl
    cases false false true true p q r s = refl
    cases false false false false p q r s = refl
    -- the first differs
    cases true false true true p q r s =
        λ i. xor
        (above_is t
        (up_of (t_nn (nnp Aa Bb (yes_low Aa p) (yes_low Bb s)) (pnn Ab Ba (up_nn (no_low Ab q)) (yes_low Ba r)))
        (λ z. bad _ _ p q (sa z))) i) false
    cases true false false false p q r s =
        λ i. xor
        (above_no t (t_np (npn Aa Bb (yes_low Aa p) (up_nn (no_low Bb s))) (mul_nonneg (up_nn (no_low Ab q)) (up_nn (no_low Ba r)))) i)
        false
    cases false true true true p q r s =
        λ i. xor
        (below_is t
        (dn_of (t_np (pnn Aa Bb (up_nn (no_low Aa p)) (yes_low Bb s)) (nnp Ab Ba (yes_low Ab q) (yes_low Ba r)))
        (λ z. bad' _ _ p q (sa z))) i) false
    cases false true false false p q r s =
        λ i. xor
        (below_no t (t_nn (mul_nonneg (up_nn (no_low Aa p)) (up_nn (no_low Bb s))) (npn Ab Ba (yes_low Ab q) (up_nn (no_low Ba r)))) i)
        false
    -- the second differs
    cases true true true false p q r s =
        λ i. xor false (above_no t (t_np (npn Aa Bb (yes_low Aa p) (up_nn (no_low Bb s))) (nnp Ab Ba (yes_low Ab q) (yes_low Ba r))) i)
    cases false false true false p q r s =
        λ i. xor false
        (above_is t
        (up_of (t_nn (mul_nonneg (up_nn (no_low Aa p)) (up_nn (no_low Bb s))) (pnn Ab Ba (up_nn (no_low Ab q)) (yes_low Ba r)))
        (λ z. bad _ _ r s (sb z))) i)
    cases true true false true p q r s =
        λ i. xor false (below_no t (t_nn (nnp Aa Bb (yes_low Aa p) (yes_low Bb s)) (npn Ab Ba (yes_low Ab q) (up_nn (no_low Ba r)))) i)
    cases false false false true p q r s =
        λ i. xor false
        (below_is t
        (dn_of (t_np (pnn Aa Bb (up_nn (no_low Aa p)) (yes_low Bb s)) (mul_nonneg (up_nn (no_low Ab q)) (up_nn (no_low Ba r))))
        (λ z. bad' _ _ r s (sb z))) i)
    -- both differ
    cases true false true false p q r s = xor_self (above t)
    cases true false false true p q r s = either (λ z. bad _ _ p q (sa z))
    cases false true true false p q r s = either' (λ z. bad' _ _ p q (sa z))
    cases false true false true p q r s = xor_self (below t)

    pub two_rays : xor (meets_ray (le_z Aa (pos 0)) (le_z Ab (pos 0)) t) (meets_ray (le_z Ba (pos 0)) (le_z Bb (pos 0)) t) ≡ xor
        (sect (le_z Aa (pos 0)) (le_z Ba (pos 0))) (sect (le_z Ab (pos 0)) (le_z Bb (pos 0)))
    two_rays = cases (le_z Aa (pos 0)) (le_z Ab (pos 0)) (le_z Ba (pos 0)) (le_z Bb (pos 0)) refl refl refl refl

-- ---- of points
module _ (p : Flat) where
  -- two ends that p does not part are to one side of every ray
  pub same_side : (q a b : Flat) → twice_area a b p ≡ pos 0 → Up (facing p a b) → right p q a ≡ right p q b
  unfolding right facing twice_area
  same_side q a b z f = go (le_z (twice_area p q a) (pos 0)) (le_z (twice_area p q b) (pos 0)) refl refl
    where
      σ : List ℤ
      σ = env (pos 0) (p ∷ q ∷ a ∷ b ∷ [])

      -- by a's place, and by b's
      at_b : facing p a a *ℤ twice_area p q b ≡ facing p a b *ℤ twice_area p q a
      at_b =
          ring_with σ (((u_e 2 ⊖ u_e 0) ⊗ (u_e 2 ⊖ u_e 0) ⊕ (v_e 2 ⊖ v_e 0) ⊗ (v_e 2 ⊖ v_e 0)) ⊗ tE 0 1 3)
          (((u_e 2 ⊖ u_e 0) ⊗ (u_e 3 ⊖ u_e 0) ⊕ (v_e 2 ⊖ v_e 0) ⊗ (v_e 3 ⊖ v_e 0)) ⊗ tE 0 1 2)
          ((u_e 1 ⊖ u_e 0) ⊗ (u_e 2 ⊖ u_e 0) ⊕ (v_e 1 ⊖ v_e 0) ⊗ (v_e 2 ⊖ v_e 0)) (tE 2 3 0) (con (pos 0)) tt z

      at_a : facing p b b *ℤ twice_area p q a ≡ facing p a b *ℤ twice_area p q b
      at_a =
          ring_with σ (((u_e 3 ⊖ u_e 0) ⊗ (u_e 3 ⊖ u_e 0) ⊕ (v_e 3 ⊖ v_e 0) ⊗ (v_e 3 ⊖ v_e 0)) ⊗ tE 0 1 2)
          (((u_e 2 ⊖ u_e 0) ⊗ (u_e 3 ⊖ u_e 0) ⊕ (v_e 2 ⊖ v_e 0) ⊗ (v_e 3 ⊖ v_e 0)) ⊗ tE 0 1 3)
          (neg ((u_e 1 ⊖ u_e 0) ⊗ (u_e 3 ⊖ u_e 0) ⊕ (v_e 1 ⊖ v_e 0) ⊗ (v_e 3 ⊖ v_e 0))) (tE 2 3 0) (con (pos 0)) tt z

      -- a square with a factor above 0 times what is above 0
      clash : (s x y : ℤ) → Nn s → s *ℤ y ≡ facing p a b *ℤ x → Nn (neg_ℤ y) → Up x → ⊥
      clash s x y n e h l =
          off (up_is (sym e) (mul-pos f l)) (nn_is (ring (s ∷ y ∷ []) (var 0 ⊗ neg (var 1)) (neg (var 0 ⊗ var 1)) tt) (mul_nonneg n h))

      sq : (x y : ℤ) → Nn (x *ℤ x +ℤ y *ℤ y)
      sq x y = add_nonneg (square_nonneg x) (square_nonneg y)

      go : (x y : Bool) → le_z (twice_area p q a) (pos 0) ≡ x → le_z (twice_area p q b) (pos 0) ≡ y
          → le_z (twice_area p q a) (pos 0) ≡ le_z (twice_area p q b) (pos 0)
      go true true e h = e ∙ sym h
      go false false e h = e ∙ sym h
      go true false e h =
          absurd
          (clash (facing p b b) (twice_area p q b) (twice_area p q a) (sq (b.u -ℤ p.u) (b.v -ℤ p.v)) at_a (yes_low (twice_area p q a) e)
          (no_low (twice_area p q b) h))
      go false true e h =
          absurd
          (clash (facing p a a) (twice_area p q a) (twice_area p q b) (sq (a.u -ℤ p.u) (a.v -ℤ p.v)) at_b (yes_low (twice_area p q b) h)
          (no_low (twice_area p q a) e))

  pub cross4 : (q r a b : Flat) → twice_area a b p *ℤ twice_area p q r ≡ twice_area p q a *ℤ twice_area p r b -ℤ twice_area p q b *ℤ twice_area p r a
  unfolding twice_area
  cross4 q r a b = ring (env (pos 0) (p ∷ q ∷ r ∷ a ∷ b ∷ [])) (tE 3 4 0 ⊗ tE 0 1 2) (tE 0 1 3 ⊗ tE 0 2 4 ⊖ tE 0 1 4 ⊗ tE 0 2 3) tt

  pub left_of : (q r : Flat) → Up (twice_area p q r) → (g : List Flat) → OffEverySide p g → round (beam p q) g ≡ round (beam p r) g
  unfolding beam right
  left_of q r k g c = potential (beam p q) (beam p r) (λ z. sect (right p q z) (right p r z)) g (λ a b l.
      two_rays (twice_area p q a) (twice_area p q b) (twice_area p r a) (twice_area p r b) (twice_area a b p) (twice_area p q r) k (cross4 q r a b)
      (λ z. same_side q a b z (c a b l z)) (λ z. same_side r a b z (c a b l z)))

  any_of : (q r : Flat) → (twice_area p q r ≡ pos 0 → ⊥) → (g : List Flat) → OffEverySide p g → round (beam p q) g ≡ round (beam p r) g
  any_of q r n g c = go (ways (twice_area p q r))
    where
      go : Up (twice_area p q r) ⊎ ((twice_area p q r ≡ pos 0) ⊎ Up (neg_ℤ (twice_area p q r))) → round (beam p q) g ≡ round (beam p r) g
      go (inl k) = left_of q r k g c
      go (inr (inl z)) = absurd (n z)
      go (inr (inr k)) = sym (left_of r q (up_is (sym (flip_last p r q)) k) g c)

  -- a quarter turn from q
  quarter : Flat → Flat
  quarter q = record { u = p.u -ℤ (q.v -ℤ p.v); v = p.v +ℤ (q.u -ℤ p.u) }

  quarter_is : (q : Flat) → twice_area p q (quarter q) ≡ facing p q q
  unfolding twice_area facing quarter
  quarter_is q =
      ring (env (pos 0) (p ∷ q ∷ [])) ((u_e 1 ⊖ u_e 0) ⊗ ((v_e 0 ⊕ (u_e 1 ⊖ u_e 0)) ⊖ v_e 0) ⊖ (v_e 1 ⊖ v_e 0) ⊗ ((u_e 0 ⊖ (v_e 1 ⊖ v_e 0)) ⊖ u_e 0))
      ((u_e 1 ⊖ u_e 0) ⊗ (u_e 1 ⊖ u_e 0) ⊕ (v_e 1 ⊖ v_e 0) ⊗ (v_e 1 ⊖ v_e 0)) tt

  quarter_on : (q r : Flat) → twice_area p r (quarter q) ≡ facing p q r
  unfolding twice_area facing quarter
  quarter_on q r =
      ring (env (pos 0) (p ∷ q ∷ r ∷ []))
      ((u_e 2 ⊖ u_e 0) ⊗ ((v_e 0 ⊕ (u_e 1 ⊖ u_e 0)) ⊖ v_e 0) ⊖ (v_e 2 ⊖ v_e 0) ⊗ ((u_e 0 ⊖ (v_e 1 ⊖ v_e 0)) ⊖ u_e 0))
      ((u_e 1 ⊖ u_e 0) ⊗ (u_e 2 ⊖ u_e 0) ⊕ (v_e 1 ⊖ v_e 0) ⊗ (v_e 2 ⊖ v_e 0)) tt

  -- the two cannot both be 0
  lagrange : (q r : Flat) → twice_area p q r *ℤ twice_area p q r +ℤ facing p q r *ℤ facing p q r ≡ facing p q q *ℤ facing p r r
  unfolding twice_area facing
  lagrange q r =
      let f_e : ℕ → ℕ → Expr = λ a b. (u_e a ⊖ u_e 0) ⊗ (u_e b ⊖ u_e 0) ⊕ (v_e a ⊖ v_e 0) ⊗ (v_e b ⊖ v_e 0) in
      ring (env (pos 0) (p ∷ q ∷ r ∷ [])) (tE 0 1 2 ⊗ tE 0 1 2 ⊕ f_e 1 2 ⊗ f_e 1 2) (f_e 1 1 ⊗ f_e 2 2) tt

  -- the rays through any two points other than p
  pub every_ray : (q r : Flat) → Up (facing p q q) → Up (facing p r r) → (g : List Flat) → OffEverySide p g
      → round (beam p q) g ≡ round (beam p r) g
  every_ray q r hq hr g c = go (ways (twice_area p q r))
    where
      straight : twice_area p q r ≡ pos 0 → facing p q r ≡ pos 0 → ⊥
      straight z f = zero_off (sym (lagrange q r) ∙ (λ i. z i *ℤ z i +ℤ f i *ℤ f i)) (mul-pos hq hr)

      go : Up (twice_area p q r) ⊎ ((twice_area p q r ≡ pos 0) ⊎ Up (neg_ℤ (twice_area p q r))) → round (beam p q) g ≡ round (beam p r) g
      go (inl k) = left_of q r k g c
      go (inr (inl z)) =
          left_of q (quarter q) (up_is (sym (quarter_is q)) hq) g c
          ∙ sym (any_of r (quarter q) (λ e. straight z (sym (quarter_on q r) ∙ e)) g c)
      go (inr (inr k)) = sym (left_of r q (up_is (sym (flip_last p r q)) k) g c)

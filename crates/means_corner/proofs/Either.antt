-- A direction that is not strictly outside an angle, and does not go along one of its sides, is strictly inside it.
use mathlib.Core.Path.{◌≡◌, sym, ◌∙◌, ap}
use mathlib.Core.Logic.{◌⊎◌, inl, inr}
use mathlib.Core.List.{[], ◌∷◌}
use lib.IntN.{ℤ, pos, neg_ℤ, ◌*ℤ◌}
use Rattle.exact.proofs.Ring.{var, con, ◌⊗◌, neg, ring}
use Rattle.exact.proofs.Order.{mul-pos, mul_nonneg, ring_with}
use Rattle.exact.proofs.Signs.{mul-zero, pos-ne}
use Rattle.paper.specs.declared.Flat.{Flat}
use Rattle.means_area.specs.Flats.{Up, Nn, twice_area}
use Rattle.means_area.proofs.Flats.Net.{nn0}
use Rattle.means_area.proofs.Flats.Signs.{up_is, nn_is, up_nn, off, zero_off, ways, twice}
use Rattle.means_area.proofs.Flats.Turns.{env, tE, flip_last}
use Rattle.means_inside.specs.Beams.{facing}
use Rattle.means_inside.specs.Convex.{Hand, lefts, rights, handed}
use Rattle.means_inside.proofs.Ears.{facing_back}
use Rattle.means_inside.proofs.Triangle.{f_e}
use Rattle.means_corner.proofs.Cone.{t, hand_back}
use Rattle.means_corner.proofs.Beside.{Behind, Strict, acute, wide, hand_ratio}
use Rattle.means_corner.proofs.Outside.{OuterBy}
use Rattle.means_corner.proofs.Around.{outer_hand}

hand_none : (h : Hand) (z : ℤ) → handed h z ≡ pos 0 → z ≡ pos 0
hand_none lefts z e = e
hand_none rights z e = twice z ∙ ap neg_ℤ e

-- products in line: x is in line with c
dots : (v x y c : Flat) → twice_area v x c ≡ pos 0 → facing v c c *ℤ facing v x y ≡ facing v x c *ℤ facing v y c
unfolding twice_area facing
dots v x y c e =
    ring_with (env (pos 0) (v ∷ x ∷ y ∷ c ∷ [])) (f_e 0 3 3 ⊗ f_e 0 1 2) (f_e 0 1 3 ⊗ f_e 0 2 3) (neg (tE 0 3 2)) (tE 0 1 3) (con (pos 0)) tt e

-- x y = z w, with the signs of all four but one of them
no_up : (x y z w : ℤ) → x *ℤ y ≡ z *ℤ w → Up x → Up y → Nn (neg_ℤ z) → Nn w → ⊥
no_up x y z w e ux uy nz nw =
    off (mul-pos ux uy) (nn_is (ring (z ∷ w ∷ []) (neg (var 0) ⊗ var 1) (neg (var 0 ⊗ var 1)) tt ∙ ap neg_ℤ (sym e)) (mul_nonneg nz nw))

no_down : (x y z w : ℤ) → x *ℤ y ≡ z *ℤ w → Up x → Up (neg_ℤ y) → Nn (neg_ℤ z) → Nn (neg_ℤ w) → ⊥
no_down x y z w e ux uy nz nw =
    off (mul-pos ux uy)
    (nn_is (ring (z ∷ w ∷ []) (neg (var 0) ⊗ neg (var 1)) (var 0 ⊗ var 1) tt ∙ sym e
    ∙ ring (x ∷ y ∷ []) (var 0 ⊗ var 1) (neg (var 0 ⊗ neg (var 1))) tt) (mul_nonneg nz nw))

module _ (h : Hand) (v b a c : Flat) (behind-b : Behind v b c) (behind-a : Behind v a c)
    (straight : twice_area v b a ≡ pos 0 → Up (neg_ℤ (facing v a b))) (not-out : OuterBy h v b a c → ⊥) where
  cb : Up (neg_ℤ (t h v b c)) → Up (t h v c b)
  cb u = up_is (sym (hand_back v h c b)) u

  ac : Up (neg_ℤ (t h v c a)) → Up (t h v a c)
  ac u = up_is (sym (hand_back v h a c)) u

  along_b : t h v b c ≡ pos 0 → twice_area v b c ≡ pos 0
  along_b e = hand_none h (twice_area v b c) e

  along_a : t h v c a ≡ pos 0 → twice_area v a c ≡ pos 0
  along_a e = flip_last v a c ∙ ap neg_ℤ (hand_none h (twice_area v c a) e)

  by_b : t h v b c ≡ pos 0 → facing v c c *ℤ t h v b a ≡ facing v b c *ℤ t h v c a
  by_b e = hand_ratio v c h b a (along_b e)

  by_a : t h v c a ≡ pos 0 → facing v c c *ℤ t h v b a ≡ facing v a c *ℤ t h v b c
  by_a e =
      ap (λ (z : ℤ). facing v c c *ℤ z) (hand_back v h b a)
      ∙ ring (facing v c c ∷ t h v a b ∷ []) (var 0 ⊗ neg (var 1)) (neg (var 0 ⊗ var 1)) tt ∙ ap neg_ℤ (hand_ratio v c h a b (along_a e))
      ∙ ring (facing v a c ∷ t h v c b ∷ []) (neg (var 0 ⊗ var 1)) (var 0 ⊗ neg (var 1)) tt
      ∙ ap (λ (z : ℤ). facing v a c *ℤ z) (sym (hand_back v h b c))

  -- a and b are on both sides of v in one line, and c is in it on neither
  no_straight : t h v b a ≡ pos 0 → Up (facing v c c) → facing v c c *ℤ facing v a b ≡ facing v a c *ℤ facing v b c
      → Nn (neg_ℤ (facing v a c)) → Nn (neg_ℤ (facing v b c)) → ⊥
  no_straight e u q na nb =
      no_down (facing v c c) (facing v a b) (facing v a c) (facing v b c) q u (straight (hand_none h (twice_area v b a) e)) na nb

  dots_b : t h v b c ≡ pos 0 → facing v c c *ℤ facing v a b ≡ facing v a c *ℤ facing v b c
  dots_b e =
      ap (λ (z : ℤ). facing v c c *ℤ z) (facing_back v a b) ∙ dots v b a c (along_b e)
      ∙ ring (facing v b c ∷ facing v a c ∷ []) (var 0 ⊗ var 1) (var 1 ⊗ var 0) tt

  dots_a : t h v c a ≡ pos 0 → facing v c c *ℤ facing v a b ≡ facing v a c *ℤ facing v b c
  dots_a e = dots v a b c (along_a e)

  low : {z : ℤ} → (z ≡ pos 0) ⊎ Up (neg_ℤ z) → Nn (neg_ℤ z)
  low (inl e) = nn0 (ap neg_ℤ e)
  low (inr k) = up_nn k

  -- below 180 degrees
  narrow : Up (t h v b a) → Up (t h v b c) ⊎ ((t h v b c ≡ pos 0) ⊎ Up (neg_ℤ (t h v b c)))
      → Up (t h v c a) ⊎ ((t h v c a ≡ pos 0) ⊎ Up (neg_ℤ (t h v c a))) → Strict h v b a c
  narrow u (inr (inr x)) y = absurd (not-out (outer_hand h v b a c (inl (u, inl (cb x)))))
  narrow u (inl x) (inr (inr y)) = absurd (not-out (outer_hand h v b a c (inl (u, inr (ac y)))))
  narrow u (inr (inl x)) (inr (inr y)) = absurd (not-out (outer_hand h v b a c (inl (u, inr (ac y)))))
  narrow u (inl x) (inl y) = acute u x y
  narrow u (inr (inl x)) (inl y) =
      let w = behind-b (along_b x) in absurd (no_up (facing v c c) (t h v b a) (facing v b c) (t h v c a) (by_b x) w.1 u w.0
      (up_nn y))
  narrow u (inr (inl x)) (inr (inl y)) =
      let w = behind-b (along_b x) in
      absurd (no_up (facing v c c) (t h v b a) (facing v b c) (t h v c a) (by_b x) w.1 u w.0 (nn0 y))
  narrow u (inl x) (inr (inl y)) =
      let w = behind-a (along_a y) in absurd (no_up (facing v c c) (t h v b a) (facing v a c) (t h v b c) (by_a y) w.1 u w.0
      (up_nn x))

  -- 180 degrees or more, with c on neither side
  at_b : (t h v b a ≡ pos 0) ⊎ Up (neg_ℤ (t h v b a)) → t h v b c ≡ pos 0 → (t h v c a ≡ pos 0) ⊎ Up (neg_ℤ (t h v c a)) → ⊥
  at_b (inr u) x y =
      let w = behind-b (along_b x) in no_down (facing v c c) (t h v b a) (facing v b c) (t h v c a) (by_b x) w.1 u w.0 (low y)
  at_b (inl e) x (inl y) =
      let w = behind-b (along_b x) in no_straight e w.1 (dots_b x) (behind-a (along_a y)).0 w.0
  at_b (inl e) x (inr y) =
      let w = behind-b (along_b x) in
      let z : facing v b c ≡ pos 0 = mul-zero (t h v c a) (facing v b c) (λ q. zero_off (ap neg_ℤ q) y)
      (ring (t h v c a ∷ facing v b c ∷ []) (var 0 ⊗ var 1) (var 1 ⊗ var 0) tt ∙ sym (by_b x) ∙ ap (λ (i : ℤ). facing v c c *ℤ i) e
      ∙ ring (facing v c c ∷ []) (var 0 ⊗ con (pos 0)) (con (pos 0)) tt) in
      crossed e w.1 (dots_b x ∙ ap (λ (i : ℤ). facing v a c *ℤ i) z ∙ ring (facing v a c ∷ []) (var 0 ⊗ con (pos 0)) (con (pos 0)) tt)
    where
      crossed : t h v b a ≡ pos 0 → Up (facing v c c) → facing v c c *ℤ facing v a b ≡ pos 0 → ⊥
      crossed e u q = zero_off (ap neg_ℤ (mul-zero (facing v c c) (facing v a b) (pos-ne u) q)) (straight (hand_none h (twice_area v b a) e))

  at_a : (t h v b a ≡ pos 0) ⊎ Up (neg_ℤ (t h v b a)) → Up (neg_ℤ (t h v b c)) → t h v c a ≡ pos 0 → ⊥
  at_a (inr u) x y =
      let w = behind-a (along_a y) in no_down (facing v c c) (t h v b a) (facing v a c) (t h v b c) (by_a y) w.1 u w.0 (up_nn x)
  at_a (inl e) x y =
      let w = behind-a (along_a y) in
      let z : facing v a c ≡ pos 0 = mul-zero (t h v b c) (facing v a c) (λ q. zero_off (ap neg_ℤ q) x)
      (ring (t h v b c ∷ facing v a c ∷ []) (var 0 ⊗ var 1) (var 1 ⊗ var 0) tt ∙ sym (by_a y) ∙ ap (λ (i : ℤ). facing v c c *ℤ i) e
      ∙ ring (facing v c c ∷ []) (var 0 ⊗ con (pos 0)) (con (pos 0)) tt) in
      zero_off (ap neg_ℤ (mul-zero (facing v c c) (facing v a b) (pos-ne w.1)
      (dots_a y ∙ ap (λ (i : ℤ). i *ℤ facing v b c) z ∙ ring (facing v b c ∷ []) (con (pos 0) ⊗ var 0) (con (pos 0)) tt)))
      (straight (hand_none h (twice_area v b a) e))

  wider : (t h v b a ≡ pos 0) ⊎ Up (neg_ℤ (t h v b a)) → Up (t h v b c) ⊎ ((t h v b c ≡ pos 0) ⊎ Up (neg_ℤ (t h v b c)))
      → Up (t h v c a) ⊎ ((t h v c a ≡ pos 0) ⊎ Up (neg_ℤ (t h v c a))) → Strict h v b a c
  wider u (inl x) y = wide (low u) (inl x)
  wider u (inr x) (inl y) = wide (low u) (inr y)
  wider u (inr (inl x)) (inr y) = absurd (at_b u x y)
  wider u (inr (inr x)) (inr (inl y)) = absurd (at_a u x y)
  wider u (inr (inr x)) (inr (inr y)) = absurd (not-out (outer_hand h v b a c (inr (low u, (cb x, ac y)))))

  pub strict_or : Strict h v b a c
  strict_or = go (ways (t h v b a))
    where
      go : Up (t h v b a) ⊎ ((t h v b a ≡ pos 0) ⊎ Up (neg_ℤ (t h v b a))) → Strict h v b a c
      go (inl u) = narrow u (ways (t h v b c)) (ways (t h v c a))
      go (inr u) = wider u (ways (t h v b c)) (ways (t h v c a))

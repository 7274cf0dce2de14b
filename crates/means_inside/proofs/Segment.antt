-- Along a segment that touches no side the parity stays.
use mathlib.Core.Path.{◌≡◌, refl, sym, ◌∙◌, ap}
use mathlib.Core.Bool.{Bool, true, false, xor}
use mathlib.Core.Logic.{◌⊎◌, inl, inr}
use mathlib.Core.List.{List, [], ◌∷◌}
use lib.IntN.{ℤ, pos, neg_ℤ, ◌+ℤ◌, ◌-ℤ◌, ◌*ℤ◌}
use lib.Signed.{le_z, ◌<ℤ◌}
use Rattle.exact.proofs.Ring.{var, con, ◌⊕◌, ◌⊖◌, ◌⊗◌, neg, ring}
use Rattle.exact.proofs.Order.{ring_with, mul-pos, mul_nonneg, sub_pos}
use Rattle.exact.proofs.Signs.{<ℤ-ne}
use Rattle.paper.specs.Points.{above, below}
use Rattle.paper.specs.Polygon.{meets_ray}
use Rattle.paper.specs.declared.Flat.{Flat}
use Rattle.means_area.specs.Rings.{Link}
use Rattle.means_area.specs.Flats.{Up, Nn, twice_area, Cross, height, WithinSegment}
use Rattle.means_area.proofs.Flats.Signs.{up_is, nn_is, up_nn, up_add, off, ways, which, up_out, diff_up, twice}
use Rattle.means_area.proofs.Flats.Turns.{env, u_e, v_e, tE, h_e, flip}
use Rattle.means_area.proofs.Flats.Choice.{compare}
use Rattle.means_area.proofs.Flats.Chains.{link_back}
use Rattle.means_inside.specs.Beams.{right, beam, facing, Off, OffEverySide, odd}
use Rattle.means_inside.proofs.Parity.{potential, xor_self}
use Rattle.means_inside.proofs.Beams.{above_is, above_no, below_is, below_no, yes_low, no_low}
use Rattle.means_inside.proofs.Triangle.{f_e, self_nn, self_up, by_ray}

pub below-neg : (t : ℤ) → below (neg_ℤ t) ≡ above t
below-neg t = go (ways t)
  where
    go : Up t ⊎ ((t ≡ pos 0) ⊎ Up (neg_ℤ t)) → below (neg_ℤ t) ≡ above t
    go (inl k) = below_is (neg_ℤ t) (up_is (twice t) k) ∙ sym (above_is t k)
    go (inr (inl e)) =
        below_no (neg_ℤ t) (nn_is (ap neg_ℤ (sym e)) (record { le = tt })) ∙ sym (above_no t (nn_is (ap neg_ℤ (sym e)) (record { le = tt })))
    go (inr (inr k)) = below_no (neg_ℤ t) (up_nn k) ∙ sym (above_no t (up_nn k))

-- a test does not ask for the direction of a side
pub beam_back : (p q a b : Flat) → beam p q a b ≡ beam p q b a
unfolding beam meets_ray
beam_back p q a b = go (right p q a) (right p q b)
  where
    go : (x y : Bool) → meets_ray x y (twice_area a b p) ≡ meets_ray y x (twice_area b a p)
    go true true = refl
    go false false = refl
    go true false = sym (ap below (flip b a p) ∙ below-neg (twice_area a b p))
    go false true = ap below (flip a b p) ∙ below-neg (twice_area b a p)

-- ---- a corner and a link
at-height : (m : ℤ) (a b z : Flat) → twice_area a b z ≡ pos 0
    → facing z b b *ℤ (height m a -ℤ height m z) ≡ facing z a b *ℤ (height m b -ℤ height m z)
unfolding twice_area facing height
at-height m a b z e =
    ring_with (env m (a ∷ b ∷ z ∷ [])) (f_e 2 1 1 ⊗ (h_e 0 ⊖ h_e 2)) (f_e 2 0 1 ⊗ (h_e 1 ⊖ h_e 2))
    (neg ((u_e 1 ⊖ u_e 2) ⊕ neg (var 0 ⊗ (v_e 1 ⊖ v_e 2)))) (tE 0 1 2) (con (pos 0)) tt e

module _ (m : ℤ) where
  abbrev h : Flat → ℤ
  h = height m

  -- lower than both ends
  pub off_low : (z a b : Flat) → h z <ℤ h a → h z <ℤ h b → Off z a b
  off_low z a b ka kb e = go (which (facing z a b))
    where
      bb : Up (facing z b b)
      bb = self_up z b (λ q. <ℤ-ne kb (ap h (sym q)))

      go : Up (facing z a b) ⊎ Nn (neg_ℤ (facing z a b)) → Up (facing z a b)
      go (inl k) = k
      go (inr k) =
          absurd
          (off (up_is (at-height m a b z e) (mul-pos bb (sub_pos ka)))
          (nn_is (ring (facing z a b ∷ (h b -ℤ h z) ∷ []) (neg (var 0) ⊗ var 1) (neg (var 0 ⊗ var 1)) tt)
          (mul_nonneg k (up_nn (sub_pos kb)))))

  -- not inside it, and none of its ends
  pub off_link : (z a b : Flat) → (h a ≡ h z → ⊥) → (h b ≡ h z → ⊥) → (WithinSegment m a b z → ⊥) → (WithinSegment m b a z → ⊥) → Off z a b
  off_link z a b na nb x y e = go (which (facing z a b)) (compare (h a) (h z)) (compare (h b) (h z))
    where
      bb : Up (facing z b b)
      bb = self_up z b (λ q. nb (ap h q))

      -- both above, or both below
      up2 : Nn (neg_ℤ (facing z a b)) → h z <ℤ h a → h z <ℤ h b → ⊥
      up2 k ka kb = off (off_low z a b ka kb e) k

      dn2 : Nn (neg_ℤ (facing z a b)) → h a <ℤ h z → h b <ℤ h z → ⊥
      dn2 k ka kb =
          off (mul-pos bb (sub_pos ka))
          (nn_is (ring (facing z b b ∷ h a ∷ h z ∷ []) (var 0 ⊗ (var 1 ⊖ var 2)) (neg (var 0 ⊗ (var 2 ⊖ var 1))) tt)
          (nn_is (sym (at-height m a b z e))
          (nn_is (ring (facing z a b ∷ h b ∷ h z ∷ []) (neg (var 0) ⊗ (var 2 ⊖ var 1)) (var 0 ⊗ (var 1 ⊖ var 2)) tt)
          (mul_nonneg k (up_nn (sub_pos kb))))))

      go : Up (facing z a b) ⊎ Nn (neg_ℤ (facing z a b)) → (h a <ℤ h z) ⊎ ((h a ≡ h z) ⊎ (h z <ℤ h a))
          → (h b <ℤ h z) ⊎ ((h b ≡ h z) ⊎ (h z <ℤ h b)) → Up (facing z a b)
      go (inl k) p q = k
      go (inr k) (inr (inl p)) q = absurd (na p)
      go (inr k) (inl p) (inr (inl q)) = absurd (nb q)
      go (inr k) (inr (inr p)) (inr (inl q)) = absurd (nb q)
      go (inr k) (inl p) (inl q) = absurd (dn2 k p q)
      go (inr k) (inr (inr p)) (inr (inr q)) = absurd (up2 k p q)
      go (inr k) (inl p) (inr (inr q)) = absurd (x (record { line = e; after = p; before = q }))
      go (inr k) (inr (inr p)) (inl q) = absurd (y (record { line = flip b a z ∙ ap neg_ℤ e; after = q; before = p }))

  -- ---- from z to z'
  module _ (z z' : Flat) (ne : h z ≡ h z' → ⊥) (g : List Flat) (cz : OffEverySide z g) (cz' : OffEverySide z' g)
      (uncut : (a b : Flat) → Link g a b → Cross z z' a b → ⊥) (bare : (a b : Flat) → Link g a b → WithinSegment m z z' a → ⊥)
      (bare' : (a b : Flat) → Link g a b → WithinSegment m z' z a → ⊥) where
    beyond : Flat
    beyond = record { u = z'.u +ℤ (z'.u -ℤ z.u); v = z'.v +ℤ (z'.v -ℤ z.v) }

    beyond_is : (a : Flat) → twice_area z' beyond a ≡ twice_area z z' a
    unfolding twice_area beyond
    beyond_is a =
        ring (env (pos 0) (z ∷ z' ∷ a ∷ []))
        (((u_e 1 ⊕ (u_e 1 ⊖ u_e 0)) ⊖ u_e 1) ⊗ (v_e 2 ⊖ v_e 1) ⊖ ((v_e 1 ⊕ (v_e 1 ⊖ v_e 0)) ⊖ v_e 1) ⊗ (u_e 2 ⊖ u_e 1)) (tE 0 1 2) tt

    less : (a b : Flat) → twice_area a b z ≡ twice_area a b z' +ℤ (twice_area z z' b +ℤ twice_area z' z a)
    unfolding twice_area
    less a b = ring (env (pos 0) (z ∷ z' ∷ a ∷ b ∷ [])) (tE 2 3 0) (tE 2 3 1 ⊕ (tE 0 1 3 ⊕ tE 1 0 2)) tt

    on_side : (a b : Flat) → twice_area a b z' ≡ pos 0 → twice_area z z' b *ℤ facing z' a b ≡ neg_ℤ (twice_area z' z a *ℤ facing z' b b)
    unfolding twice_area facing
    on_side a b e =
        ring_with (env (pos 0) (z ∷ z' ∷ a ∷ b ∷ [])) (tE 0 1 3 ⊗ f_e 1 2 3) (neg (tE 1 0 2 ⊗ f_e 1 3 3)) (neg (f_e 1 0 3)) (tE 2 3 1)
        (con (pos 0)) tt e

    after_z : (a b : Flat) → twice_area z' z a ≡ pos 0 → twice_area z z' b *ℤ (h a -ℤ h z) ≡ twice_area a b z *ℤ (h z' -ℤ h z)
    unfolding twice_area height
    after_z a b e =
        ring_with (env m (z ∷ z' ∷ a ∷ b ∷ [])) (tE 0 1 3 ⊗ (h_e 2 ⊖ h_e 0)) (tE 2 3 0 ⊗ (h_e 1 ⊖ h_e 0)) (h_e 0 ⊖ h_e 3) (tE 1 0 2)
        (con (pos 0)) tt e

    before_z' : (a b : Flat) → twice_area z' z a ≡ pos 0 → twice_area z z' b *ℤ (h z' -ℤ h a) ≡ twice_area b a z' *ℤ (h z' -ℤ h z)
    unfolding twice_area height
    before_z' a b e =
        ring_with (env m (z ∷ z' ∷ a ∷ b ∷ [])) (tE 0 1 3 ⊗ (h_e 1 ⊖ h_e 2)) (tE 3 2 1 ⊗ (h_e 1 ⊖ h_e 0)) (h_e 3 ⊖ h_e 1) (tE 1 0 2)
        (con (pos 0)) tt e

    -- the side does not pass between
    between : (a b : Flat) → Link g a b → Nn (twice_area z' z a) → Up (twice_area z z' b) → Up (twice_area a b z) → Nn (twice_area b a z') → ⊥
    between a b l α β t t' = go (ways (twice_area b a z')) (ways (twice_area z' z a))
      where
        go : Up (twice_area b a z') ⊎ ((twice_area b a z' ≡ pos 0) ⊎ Up (neg_ℤ (twice_area b a z')))
            → Up (twice_area z' z a) ⊎ ((twice_area z' z a ≡ pos 0) ⊎ Up (neg_ℤ (twice_area z' z a))) → ⊥
        go (inr (inr k)) x = off k (nn_is (twice (twice_area b a z')) t')
        go (inr (inl e)) x = let e' = flip a b z' ∙ ap neg_ℤ e in
            off (up_is (on_side a b e') (mul-pos β (cz' a b l e')))
            (nn_is (twice (twice_area z' z a *ℤ facing z' b b)) (mul_nonneg α (self_nn z' b)))
        go (inl k') (inl k) = uncut b a (link_back g a b l) (record { left = β; right = k; ahead = k'; behind = t })
        go (inl k') (inr (inr k)) = off k (nn_is (twice (twice_area z' z a)) α)
        go (inl k') (inr (inl e)) = way (compare (h z) (h z'))
          where
            dn : (x y s : ℤ) → h z' <ℤ h z → s *ℤ x ≡ y *ℤ (h z' -ℤ h z) → Up s → Up y → Up (neg_ℤ x)
            dn x y s k q us uy =
                up_out s us
                (up_is (ring (s ∷ x ∷ []) (neg (var 0 ⊗ var 1)) (var 0 ⊗ neg (var 1)) tt)
                (up_is (ap neg_ℤ (sym q))
                (up_is (ring (y ∷ h z ∷ h z' ∷ []) (var 0 ⊗ (var 1 ⊖ var 2)) (neg (var 0 ⊗ (var 2 ⊖ var 1))) tt)
                (mul-pos uy (sub_pos k)))))

            way : (h z <ℤ h z') ⊎ ((h z ≡ h z') ⊎ (h z' <ℤ h z)) → ⊥
            way (inr (inl q)) = ne q
            way (inl k) = bare a b l (record {
              line = flip z z' a ∙ ap neg_ℤ e;
              after = diff_up (h z) (h a) (up_out (twice_area z z' b) β (up_is (sym (after_z a b e)) (mul-pos t (sub_pos k))));
              before = diff_up (h a) (h z') (up_out (twice_area z z' b) β (up_is (sym (before_z' a b e)) (mul-pos k' (sub_pos k))));
            })
            way (inr (inr k)) = bare' a b l (record {
              line = e;
              after =
                  diff_up (h z') (h a)
                  (up_is (ring (h z' ∷ h a ∷ []) (neg (var 0 ⊖ var 1)) (var 1 ⊖ var 0) tt)
                  (dn (h z' -ℤ h a) (twice_area b a z') (twice_area z z' b) k (before_z' a b e) β k'));
              before =
                  diff_up (h a) (h z)
                  (up_is (ring (h z ∷ h a ∷ []) (neg (var 1 ⊖ var 0)) (var 0 ⊖ var 1) tt)
                  (dn (h a -ℤ h z) (twice_area a b z) (twice_area z z' b) k (after_z a b e) β t));
            })

    keeps : (a b : Flat) → Link g a b → Nn (twice_area z' z a) → Up (twice_area z z' b) → above (twice_area a b z) ≡ above (twice_area a b z')
    keeps a b l α β = go (which (twice_area a b z)) (which (twice_area a b z'))
      where
        go : Up (twice_area a b z) ⊎ Nn (neg_ℤ (twice_area a b z)) → Up (twice_area a b z') ⊎ Nn (neg_ℤ (twice_area a b z'))
            → above (twice_area a b z) ≡ above (twice_area a b z')
        go (inl t) (inl t') = above_is (twice_area a b z) t ∙ sym (above_is (twice_area a b z') t')
        go (inr t) (inr t') = above_no (twice_area a b z) t ∙ sym (above_no (twice_area a b z') t')
        go (inl t) (inr t') = absurd (between a b l α β t (nn_is (sym (flip b a z')) t'))
        go (inr t) (inl t') = absurd (off (up_is (sym (less a b)) (up_add t' (up_nn (up_add β α)))) t)

    same : (a b : Flat) → Link g a b → beam z z' a b ≡ beam z' beyond a b
    unfolding beam right meets_ray
    same a b l =
        go (le_z (twice_area z z' a) (pos 0)) (le_z (twice_area z z' b) (pos 0)) refl refl
        ∙ (λ i. meets_ray (le_z (sym (beyond_is a) i) (pos 0)) (le_z (sym (beyond_is b) i) (pos 0)) (twice_area a b z'))
      where
        nn : (x : Flat) → le_z (twice_area z z' x) (pos 0) ≡ true → Nn (twice_area z' z x)
        nn x e = nn_is (sym (flip z' z x)) (yes_low (twice_area z z' x) e)

        go : (x y : Bool) → le_z (twice_area z z' a) (pos 0) ≡ x → le_z (twice_area z z' b) (pos 0) ≡ y
            → meets_ray (le_z (twice_area z z' a) (pos 0)) (le_z (twice_area z z' b) (pos 0)) (twice_area a b z) ≡ meets_ray (le_z (twice_area z z' a) (pos 0))
            (le_z (twice_area z z' b) (pos 0)) (twice_area a b z')
        go x y e f = (λ i. meets_ray (e i) (f i) (twice_area a b z)) ∙ cases x y e f ∙ (λ i. meets_ray (sym e i) (sym f i) (twice_area a b z'))
          where
            cases : (x y : Bool) → le_z (twice_area z z' a) (pos 0) ≡ x → le_z (twice_area z z' b) (pos 0) ≡ y
                → meets_ray x y (twice_area a b z) ≡ meets_ray x y (twice_area a b z')
            cases true true e f = refl
            cases false false e f = refl
            cases true false e f = keeps a b l (nn a e) (no_low (twice_area z z' b) f)
            cases false true e f =
                ap below (flip a b z) ∙ below-neg (twice_area b a z) ∙ keeps b a (link_back g a b l) (nn b f) (no_low (twice_area z z' a) e)
                ∙ sym (ap below (flip a b z') ∙ below-neg (twice_area b a z'))

    far : facing z' beyond beyond ≡ facing z z' z'
    unfolding facing beyond
    far =
        ring (env (pos 0) (z ∷ z' ∷ []))
        (((u_e 1 ⊕ (u_e 1 ⊖ u_e 0)) ⊖ u_e 1) ⊗ ((u_e 1 ⊕ (u_e 1 ⊖ u_e 0)) ⊖ u_e 1) ⊕ ((v_e 1 ⊕ (v_e 1 ⊖ v_e 0)) ⊖ v_e 1) ⊗
        ((v_e 1 ⊕ (v_e 1 ⊖ v_e 0)) ⊖ v_e 1)) (f_e 0 1 1) tt

    pub along : odd z g ≡ odd z' g
    along =
        by_ray z z' g cz (self_up z z' (λ e. ne (ap h (sym e))))
        ∙ potential (beam z z') (beam z' beyond) (λ a. false) g (λ a b l. ap (λ (x : Bool). xor x (beam z' beyond a b)) (same a b l)
        ∙ xor_self (beam z' beyond a b) ∙ sym (xor_self false))
        ∙ sym (by_ray z' beyond g cz' (up_is (sym far) (self_up z z' (λ e. ne (ap h (sym e))))))

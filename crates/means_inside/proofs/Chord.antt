-- A chord from the lowest corner u to w that may be added: its points are seen from u.
use mathlib.Core.Path.{◌≡◌, sym, ◌∙◌, ap}
use mathlib.Core.Logic.{inl, inr}
use mathlib.Core.List.{List, [], ◌∷◌}
use lib.IntN.{ℤ, pos, neg_ℤ, ◌+ℤ◌, ◌-ℤ◌, ◌*ℤ◌}
use lib.Signed.{◌<ℤ◌}
use native.Mathlib.Omega.{arith}
use Rattle.exact.proofs.Linear.{lt_by, lt_to, le_to}
use Rattle.exact.proofs.Ring.{var, con, ◌⊕◌, ◌⊖◌, ◌⊗◌, neg, ring}
use Rattle.exact.proofs.Order.{ring_with, mul-pos, mul_nonneg, add_nonneg, sub_pos}
use Rattle.exact.proofs.Signs.{mul-zero, pos-ne, <ℤ-ne}
use Rattle.exact.proofs.Laws.{mul_negℤ}
use Rattle.paper.specs.declared.Flat.{Flat}
use Rattle.means_area.specs.Rings.{Of, Link}
use Rattle.means_area.specs.Flats.{Up, Nn, twice_area, height, SameSign, both, none}
use Rattle.means_area.proofs.Flats.Signs.{up_is, nn_is, up_nn, up_add, up_out, nn_out, off, diff_up}
use Rattle.means_area.proofs.Flats.Turns.{env, u_e, v_e, tE, h_e, flip, flip_last}
use Rattle.means_area.proofs.Flats.Net.{Ok}
use Rattle.means_inside.specs.Beams.{facing, Seen}
use Rattle.means_inside.proofs.Triangle.{f_e, self_nn, self_up}
use Rattle.means_inside.proofs.Look.{Between}

-- in the angle, by the signs
pub same-between : (u c a w : Flat) → SameSign (twice_area u c w) (twice_area u c a) → SameSign (twice_area u w a) (twice_area u c a) → Between u c a w
same-between u c a w (both x y) (both z t) = inl (x, z)
same-between u c a w (both x y) (none z t) = absurd (off y (up_nn t))
same-between u c a w (none x y) (both z t) = absurd (off t (up_nn y))
same-between u c a w (none x y) (none z t) = inr (up_is (sym (flip_last u a w)) z, up_is (sym (flip_last u w c)) x)

module _ (m : ℤ) (u w p : Flat) (hw : height m u <ℤ height m w) (e : twice_area u w p ≡ pos 0) (f : Nn (neg_ℤ (facing p u w))) (n : p ≡ u → ⊥)
  where
    abbrev h : Flat → ℤ
    h = height m

    abbrev s : ℤ
    s = facing p u u +ℤ neg_ℤ (facing p u w)

    abbrev r : ℤ
    r = facing p w w +ℤ neg_ℤ (facing p u w)

    ww : Up (facing u w w)
    ww = self_up u w (λ q. <ℤ-ne hw (ap h (sym q)))

    ss : Up s
    ss = up_add (self_up p u (λ q. n (sym q))) f

    rr : Nn r
    rr = add_nonneg (self_nn p w) f

    left_is : (a : Flat) → s *ℤ twice_area u w a ≡ facing u w w *ℤ twice_area u p a
    unfolding twice_area facing
    left_is a =
        ring_with (env m (u ∷ w ∷ p ∷ a ∷ [])) ((f_e 2 0 0 ⊕ neg (f_e 2 0 1)) ⊗ tE 0 1 3) (f_e 0 1 1 ⊗ tE 0 2 3) (f_e 0 3 1) (tE 0 1 2)
        (con (pos 0)) tt e

    side_is : (a b : Flat) → s *ℤ twice_area a b w ≡ facing u w w *ℤ twice_area a b p +ℤ r *ℤ twice_area b a u
    unfolding twice_area facing
    side_is a b =
        ring_with (env m (u ∷ w ∷ p ∷ a ∷ b ∷ [])) ((f_e 2 0 0 ⊕ neg (f_e 2 0 1)) ⊗ tE 3 4 1)
        (f_e 0 1 1 ⊗ tE 3 4 2 ⊕ (f_e 2 1 1 ⊕ neg (f_e 2 0 1)) ⊗ tE 4 3 0)
        (neg ((u_e 4 ⊖ u_e 3) ⊗ (u_e 1 ⊖ u_e 0) ⊕ (v_e 4 ⊖ v_e 3) ⊗ (v_e 1 ⊖ v_e 0))) (tE 0 1 2) (con (pos 0)) tt e

    up_is_h : facing u w w *ℤ (h p -ℤ h u) ≡ s *ℤ (h w -ℤ h u)
    unfolding twice_area facing height
    up_is_h =
        ring_with (env m (u ∷ w ∷ p ∷ [])) (f_e 0 1 1 ⊗ (h_e 2 ⊖ h_e 0)) ((f_e 2 0 0 ⊕ neg (f_e 2 0 1)) ⊗ (h_e 1 ⊖ h_e 0))
        ((u_e 1 ⊖ u_e 0) ⊖ var 0 ⊗ (v_e 1 ⊖ v_e 0)) (tE 0 1 2) (con (pos 0)) tt e

    top_is_h : facing u w w *ℤ (h w -ℤ h p) ≡ r *ℤ (h w -ℤ h u)
    unfolding twice_area facing height
    top_is_h =
        ring_with (env m (u ∷ w ∷ p ∷ [])) (f_e 0 1 1 ⊗ (h_e 1 ⊖ h_e 2)) ((f_e 2 1 1 ⊕ neg (f_e 2 0 1)) ⊗ (h_e 1 ⊖ h_e 0))
        (neg ((u_e 1 ⊖ u_e 0) ⊖ var 0 ⊗ (v_e 1 ⊖ v_e 0))) (tE 0 1 2) (con (pos 0)) tt e

    up_p : h u <ℤ h p
    up_p = diff_up (h u) (h p) (up_out (facing u w w) ww (up_is (sym up_is_h) (mul-pos ss (sub_pos hw))))

    top_p : Nn (h w -ℤ h p)
    top_p = nn_out (facing u w w) ww (nn_is (sym top_is_h) (mul_nonneg rr (up_nn (sub_pos hw))))

    left_w : (a : Flat) → Up (twice_area u p a) → Up (twice_area u w a)
    left_w a k = up_out s ss (up_is (sym (left_is a)) (mul-pos ww k))

    left_p : (a : Flat) → Up (twice_area u w a) → Up (twice_area u p a)
    left_p a k = up_out (facing u w w) ww (up_is (left_is a) (mul-pos ss k))

    right_w : (a : Flat) → Up (twice_area p u a) → Up (twice_area w u a)
    right_w a k =
        up_is (sym (flip w u a))
        (up_out s ss
        (up_is (sym (mul_negℤ s (twice_area u w a)))
        (up_is (ap neg_ℤ (sym (left_is a))) (up_is (mul_negℤ (facing u w w) (twice_area u p a)) (mul-pos ww (up_is (flip p u a) k))))))

    right_p : (a : Flat) → Up (twice_area u a w) → Up (twice_area u a p)
    right_p a k =
        up_is (sym (flip_last u a p))
        (up_out (facing u w w) ww
        (up_is (sym (mul_negℤ (facing u w w) (twice_area u p a)))
        (up_is (ap neg_ℤ (left_is a)) (up_is (mul_negℤ s (twice_area u w a)) (mul-pos ss (up_is (flip_last u a w) k))))))

    pub chord-seen : (g : List Flat) → Ok m (Link g) (λ z. Of z g) u w → Seen m u p g
    chord-seen g ok = record {
      up = up_p;
      uncut = (λ a b l c. ok.uncut l (record {
        left = left_w a c.left;
        right = right_w b c.right;
        ahead = up_out s ss (up_is (sym (side_is a b)) (up_add (mul-pos ww c.ahead) (mul_nonneg rr (up_nn c.behind))));
        behind = c.behind;
      }));
      bare = (λ z o c. ok.bare o (record {
        line =
            mul-zero s (twice_area u w z) (pos-ne ss) (left_is z ∙ ap (λ (t : ℤ). facing u w w *ℤ t) c.line
            ∙ ring (facing u w w ∷ []) (var 0 ⊗ con (pos 0)) (con (pos 0)) tt);
        after = c.after;
        before =
            (let ρ = h z ∷ h p ∷ h w ∷ [] in
            lt_by ρ (var 0) (var 2) (omega (arith, lt_to ρ (var 0) (var 1) c.before, le_to ρ (con (pos 0)) (var 2 ⊖ var 1) top_p)));
      }));
    }

    pub chord-between : (x y : Flat) → Between u x y w → Between u x y p
    chord-between x y (inl t) = inl (right_p x t.0, left_p y t.1)
    chord-between x y (inr t) = inr (right_p y t.0, left_p x t.1)

-- What is seen from a corner v that is lower than its neighbours x and y, of any links: an empty triangle, or a farthest corner w; and
-- points of the chord v w. Two angles at v.
use mathlib.Core.Path.{◌≡◌, sym, ◌∙◌, ap}
use mathlib.Core.Logic.{◌⊎◌, inl, inr, ⊎_swap}
use mathlib.Core.List.{List, [], ◌∷◌}
use lib.IntN.{ℤ, pos, neg_ℤ, ◌+ℤ◌, ◌-ℤ◌, ◌*ℤ◌}
use lib.Signed.{◌≤ℤ◌, ◌<ℤ◌}
use native.Mathlib.Omega.{arith}
use Rattle.exact.proofs.Linear.{le_by, le_to}
use Rattle.exact.proofs.Ring.{var, con, ◌⊕◌, ◌⊖◌, ◌⊗◌, neg, ring}
use Rattle.exact.proofs.Order.{ring_with, mul-pos, mul_nonneg, add_nonneg, sub_pos}
use Rattle.paper.specs.declared.Flat.{Flat}
use Rattle.means_area.specs.Rings.{Of}
use Rattle.means_area.specs.Flats.{Up, Nn, twice_area, height, Net, SameSign, both, none}
use Rattle.means_area.proofs.Flats.Signs.{up_is, nn_is, up_nn, up_add, zero_off, ways, up_out, nn_out}
use Rattle.means_area.proofs.Flats.Turns.{In, env, u_e, v_e, tE, h_e, spin, flip, flip_last, flat-first}
use Rattle.means_area.proofs.Flats.Net.{Ok, diagonal, higher}
use Rattle.means_area.proofs.Flats.Choice.{Hit, in_sense, hit_sense, by_sense, best, Best, bent}
use Rattle.means_inside.specs.Beams.{facing}
use Rattle.means_inside.proofs.Triangle.{f_e, self_nn, self_up}

-- q is strictly in the angle from a to b at v; in the angle, whichever way round
abbrev pub Ang : Flat → Flat → Flat → Flat → Type 0
Ang v a b q = Up (twice_area v a q) × Up (twice_area v q b)

abbrev pub Between : Flat → Flat → Flat → Flat → Type 0
Between v x y q = Ang v x y q ⊎ Ang v y x q

pub in_ang : (v a b q : Flat) → In v a b q → Ang v a b q
in_ang v a b q i = (i.by_b, up_is (spin b v q) i.by_a)

pub hit_between : (v x y q : Flat) → Hit v x y q → Between v x y q
hit_between v x y q (inl i) = inl (in_ang v x y q i)
hit_between v x y q (inr i) = inr (in_ang v y x q i)

module _ (m : ℤ) where
  abbrev h : Flat → ℤ
  h = height m

  -- ---- the order of directions above v
  turn3 : (v a q b : Flat) → (h q -ℤ h v) *ℤ twice_area v a b ≡ (h b -ℤ h v) *ℤ twice_area v a q +ℤ (h a -ℤ h v) *ℤ twice_area v q b
  unfolding twice_area height
  turn3 v a q b = ring (env m (v ∷ a ∷ q ∷ b ∷ [])) ((h_e 2 ⊖ h_e 0) ⊗ tE 0 1 3) ((h_e 3 ⊖ h_e 0) ⊗ tE 0 1 2 ⊕ (h_e 1 ⊖ h_e 0) ⊗ tE 0 2 3) tt

  module _ (v : Flat) where
    pub lt-le : (a q b : Flat) → h v <ℤ h a → h v <ℤ h q → h v <ℤ h b → Up (twice_area v a q) → Nn (twice_area v q b) → Up (twice_area v a b)
    lt-le a q b ka kq kb s t =
        up_out (h q -ℤ h v) (sub_pos kq)
        (up_is (sym (turn3 v a q b)) (up_add (mul-pos (sub_pos kb) s) (mul_nonneg (up_nn (sub_pos ka)) t)))

    -- two angles with a common direction p, neither of which has a side of the other strictly inside: they have the same sides
    pub ang : (a b a' b' p : Flat) → h v <ℤ h a → h v <ℤ h b → h v <ℤ h a' → h v <ℤ h b' → h v <ℤ h p
        → Up (twice_area v a p) → Up (twice_area v p b) → Up (twice_area v a' p) → Nn (twice_area v p b')
        → (Ang v a b a' → ⊥) → (Ang v a b b' → ⊥) → (Ang v a' b' a → ⊥) → (Ang v a' b' b → ⊥)
        → (twice_area v a a' ≡ pos 0) × (twice_area v b b' ≡ pos 0)
    ang a b a' b' p ka kb ka' kb' kp s t s' t' n1 n2 n3 n4 = (first (ways (twice_area v a a')), second (ways (twice_area v b b')))
      where
        first : Up (twice_area v a a') ⊎ ((twice_area v a a' ≡ pos 0) ⊎ Up (neg_ℤ (twice_area v a a'))) → twice_area v a a' ≡ pos 0
        first (inl k) = absurd (n1 (k, lt-le a' p b ka' kp kb s' (up_nn t)))
        first (inr (inl e)) = e
        first (inr (inr k)) = absurd (n3 (up_is (sym (flip_last v a' a)) k, lt-le a p b' ka kp kb' s t'))

        -- b and b'
        second : Up (twice_area v b b') ⊎ ((twice_area v b b' ≡ pos 0) ⊎ Up (neg_ℤ (twice_area v b b'))) → twice_area v b b' ≡ pos 0
        second (inl k) = absurd (n4 (lt-le a' p b ka' kp kb s' (up_nn t), k))
        second (inr (inl e)) = e
        second (inr (inr k)) = absurd (n2 (lt-le a p b' ka kp kb' s t', up_is (sym (flip_last v b' b)) k))

  module _ (L : Flat → Flat → Type 0) (cs : List Flat) (net : Net m L (λ z. Of z cs)) (v x y : Flat) (vx : L v x) (vy : L v y)
      (hx : h v <ℤ h x) (hy : h v <ℤ h y) where
    abbrev Free : Flat → Type 0
    Free p = Ok m L (λ z. Of z cs) v p

    -- p is seen from v, in the angle
    pub record View (p : Flat) : Type 0 where
      pub up : h v <ℤ h p
      pub ok : Free p
      pub mid : Between v x y p

    pub data Look : Type 0 where
      empty : ((z : Flat) → Of z cs → Hit v x y z → ⊥) → Look
      far : (w : Flat) → Of w cs → View w → SameSign (twice_area v x w) (twice_area v x y) → SameSign (twice_area v w y) (twice_area v x y)
          → ((p : Flat) → twice_area v w p ≡ pos 0 → Nn (neg_ℤ (facing p v w)) → (p ≡ v → ⊥) → View p) → Look

    -- in the triangle, with nothing farther
    pub view : (p : Flat) → In v x y p → ((r : Flat) → Of r cs → In v x y r → twice_area x y r ≤ℤ twice_area x y p) → View p
    view p i top = let D = in_sense v x y p i in
        record {
          up = higher m L (λ z. Of z cs) net v x y D vx vy hx hy p i top;
          ok = diagonal m L (λ z. Of z cs) net v x y D vx vy hx hy p i top;
          mid = inl (in_ang v x y p i);
        }

    pub view' : (p : Flat) → In v y x p → ((r : Flat) → Of r cs → In v y x r → twice_area y x r ≤ℤ twice_area y x p) → View p
    view' p i top = let D = in_sense v y x p i in
        record {
          up = higher m L (λ z. Of z cs) net v y x D vy vx hy hx p i top;
          ok = diagonal m L (λ z. Of z cs) net v y x D vy vx hy hx p i top;
          mid = inr (in_ang v y x p i);
        }

    pub view_ear : ((z : Flat) → Of z cs → Hit v x y z → ⊥) → (p : Flat) → Hit v x y p → View p
    view_ear e p (inl i) = view p i (λ r o j. absurd (e r o (inl j)))
    view_ear e p (inr i) = view' p i (λ r o j. absurd (e r o (inr j)))

    -- points of the chord v w
    module _ (a b w p : Flat) (e : twice_area v w p ≡ pos 0) (f : Nn (neg_ℤ (facing p v w))) (n : p ≡ v → ⊥) (i : In v a b w) where
      ρ : List ℤ
      ρ = env (pos 0) (v ∷ a ∷ b ∷ w ∷ p ∷ [])

      ww : Up (facing v w w)
      ww = self_up v w (λ q. zero_off (ap (twice_area v a) q ∙ flat-first v a) i.by_b)

      along_p : facing v w w *ℤ twice_area v a p ≡ (facing p v v +ℤ neg_ℤ (facing p v w)) *ℤ twice_area v a w
      unfolding twice_area facing ρ
      along_p = ring_with ρ (f_e 0 3 3 ⊗ tE 0 1 4) ((f_e 4 0 0 ⊕ neg (f_e 4 0 3)) ⊗ tE 0 1 3) (f_e 0 1 3) (tE 0 3 4) (con (pos 0)) tt e

      along_q : facing v w w *ℤ twice_area b v p ≡ (facing p v v +ℤ neg_ℤ (facing p v w)) *ℤ twice_area b v w
      unfolding twice_area facing ρ
      along_q = ring_with ρ (f_e 0 3 3 ⊗ tE 2 0 4) ((f_e 4 0 0 ⊕ neg (f_e 4 0 3)) ⊗ tE 2 0 3) (neg (f_e 0 2 3)) (tE 0 3 4) (con (pos 0)) tt e

      along-f : facing v w w *ℤ (twice_area a b p -ℤ twice_area a b w) ≡ (facing p w w +ℤ neg_ℤ (facing p v w)) *ℤ (twice_area b v w +ℤ twice_area v a w)
      unfolding twice_area facing ρ
      along-f =
          ring_with ρ (f_e 0 3 3 ⊗ (tE 1 2 4 ⊖ tE 1 2 3)) ((f_e 4 3 3 ⊕ neg (f_e 4 0 3)) ⊗ (tE 2 0 3 ⊕ tE 0 1 3))
          ((u_e 3 ⊖ u_e 0) ⊗ (u_e 2 ⊖ u_e 1) ⊕ (v_e 3 ⊖ v_e 0) ⊗ (v_e 2 ⊖ v_e 1)) (tE 0 3 4) (con (pos 0)) tt e

      pv : Up (facing p v v +ℤ neg_ℤ (facing p v w))
      pv = up_add (self_up p v (λ q. n (sym q))) f

      farther : Nn (twice_area a b p -ℤ twice_area a b w)
      farther =
          nn_out (facing v w w) ww
          (nn_is (sym along-f) (mul_nonneg (add_nonneg (self_nn p w) f) (up_nn (up_add i.by_a (up_nn i.by_b)))))

      pub chord_in : In v a b p
      chord_in = record {
        far = nn_is (ring (twice_area a b p ∷ twice_area a b w ∷ []) (var 0 ⊖ var 1 ⊕ var 1) (var 0) tt) (add_nonneg farther i.far);
        by_a = up_out (facing v w w) ww (up_is (sym along_q) (mul-pos pv i.by_a));
        by_b = up_out (facing v w w) ww (up_is (sym along_p) (mul-pos pv i.by_b));
      }

      pub chord-far : (t : ℤ) → t ≤ℤ twice_area a b w → t ≤ℤ twice_area a b p
      chord-far t k =
          let σ = t ∷ twice_area a b w ∷ twice_area a b p ∷ [] in
          le_by σ (var 0) (var 2) (omega (arith, le_to σ (var 0) (var 1) k, le_to σ (con (pos 0)) (var 2 ⊖ var 1) farther))

    pub look : (h x ≡ h y → ⊥) → Look
    look ne =
        by_sense v x y (bent m L cs net v x y vx vy hx hy ne) (λ D. up D (best v x y cs)) (λ D. down D (best v y x cs))
      where
        up : Up (twice_area v x y) → ((z : Flat) → Of z cs → In v x y z → ⊥) ⊎ Best v x y cs → Look
        up D (inl e) = empty (λ z o i. e z o (hit_sense v x y z D i))
        up D (inr t) =
            far t.w t.of (view t.w t.inn t.top) (both t.inn.by_b D) (both (up_is (spin y v t.w) t.inn.by_a) D)
            (λ p e f n. view p (chord_in x y t.w p e f n t.inn)
            (λ r o j. chord-far x y t.w p e f n t.inn (twice_area x y r) (t.top r o j)))

        down : Up (twice_area v y x) → ((z : Flat) → Of z cs → In v y x z → ⊥) ⊎ Best v y x cs → Look
        down D (inl e) = empty (λ z o i. e z o (hit_sense v y x z D (⊎_swap i)))
        down D (inr t) = far t.w t.of (view' t.w t.inn t.top)
            (none (up_is (flip x v t.w) t.inn.by_a) (up_is (flip_last v y x) D))
            (none (up_is (flip_last v y t.w) t.inn.by_b) (up_is (flip_last v y x) D))
            (λ p e f n. view' p (chord_in y x t.w p e f n t.inn)
            (λ r o j. chord-far y x t.w p e f n t.inn (twice_area y x r) (t.top r o j)))

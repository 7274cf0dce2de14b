-- In a net, a corner v with its neighbours a and b, which are higher, and no corner inside their triangle: the chord a b may be added,
-- and no further neighbour of a and b is on v's side of it.
use mathlib.Core.Path.{◌≡◌, sym, ◌∙◌, ap, subst}
use mathlib.Core.Logic.{◌⊎◌, inl, inr}
use mathlib.Core.List.{[], ◌∷◌}
use lib.IntN.{ℤ, pos, neg_ℤ, ◌+ℤ◌, ◌-ℤ◌, ◌*ℤ◌}
use lib.Signed.{◌<ℤ◌, <ℤ_irrefl}
use Rattle.exact.proofs.Laws.{eq_of_sub}
use Rattle.exact.proofs.Ring.{var, ◌⊖◌, ◌⊗◌, neg, ring}
use Rattle.exact.proofs.Signs.{mul-zero, pos-ne}
use Rattle.exact.proofs.Order.{mul-pos, mul_nonneg, add_nonneg, sub_pos, lt_chain}
use Rattle.paper.specs.declared.Flat.{Flat}
use Rattle.means_area.specs.Flats.{Up, Nn, twice_area, Cross, height, Net}
use Rattle.means_area.proofs.Flats.Signs.{up_is, nn_is, up_nn, up_add, nn_up, off, zero_off, which, ways, up_out, nn_out, diff_up}
use Rattle.means_area.proofs.Flats.Turns.{In, spin, flip, flat-first, flat-second, low_v, low_up, low_a, low_b, place_u, place_v}
use Rattle.means_area.proofs.Flats.Turns.{sum-neg, line_pa, line_pa', line_pb, line_qa', line_qb'}
use Rattle.means_area.proofs.Flats.Turns.{base_a, base_b}
use Rattle.means_area.proofs.Flats.Turns.{back_a, back_b}
use Rattle.means_area.proofs.Flats.Net.{Ok, nn0, by0, of0, neg0, beside_a, beside_b}

module _ (m : ℤ) (L : Flat → Flat → Type 0) (Corner : Flat → Type 0) (net : Net m L Corner) where
  abbrev h : Flat → ℤ
  h = height m

  module _ (v a b : Flat) (D : Up (twice_area v a b)) (va : L v a) (vb : L v b) (ha : h v <ℤ h a) (hb : h v <ℤ h b) where
    up_a : Up (h a -ℤ h v)
    up_a = sub_pos ha

    up_b : Up (h b -ℤ h v)
    up_b = sub_pos hb

    -- ---- the ear
    module _ (empty : (x : Flat) → Corner x → In v a b x → ⊥) where
      module _ (only : (q : Flat) → L v q → (q ≡ a) ⊎ (q ≡ b)) where
        module _ {p q : Flat} (l : L p q) (x : Cross a b p q) where
          -- q's places are above 0
          short : Nn (neg_ℤ (twice_area b v q)) → Nn (neg_ℤ (twice_area v a q)) → ⊥
          short qa qb = off D (up_nn (up_is (sum-neg v a b q) (up_add (up_add x.right qa) qb)))

          qb_up : Nn (twice_area p q v) → Up (twice_area v a q)
          qb_up gv = go (which (twice_area v a q))
            where
              go : Up (twice_area v a q) ⊎ Nn (neg_ℤ (twice_area v a q)) → Up (twice_area v a q)
              go (inl k) = k
              go (inr k) =
                  absurd
                  (short
                  (nn_out (twice_area q p a) x.behind
                  (nn_is (sym (line_qa' v a b p q)) (add_nonneg (mul_nonneg (up_nn x.right) gv) (mul_nonneg k (up_nn x.ahead))))) k)

          qa_up : Nn (twice_area q p v) → Up (twice_area b v q)
          qa_up gv = go (which (twice_area b v q))
            where
              go : Up (twice_area b v q) ⊎ Nn (neg_ℤ (twice_area b v q)) → Up (twice_area b v q)
              go (inl k) = k
              go (inr k) =
                  absurd
                  (short k
                  (nn_out (twice_area p q b) x.ahead
                  (nn_is (sym (line_qb' v a b p q)) (add_nonneg (mul_nonneg (up_nn x.right) gv) (mul_nonneg k (up_nn x.behind))))))

          -- p's places
          pa_up : Nn (twice_area p q v) → Up (twice_area v a p) → Up (twice_area b v p)
          pa_up gv pb =
              up_out (twice_area q p a) x.behind
              (up_is (sym (line_pa v a b p q)) (nn_up (mul_nonneg (up_nn x.left) gv) (mul-pos pb x.ahead)))

          inside : Up (twice_area b v p) → Up (twice_area v a p) → ⊥
          inside pa pb = empty p (net.end l) (record { far = up_nn x.left; by_a = pa; by_b = pb })

          v_right : Up (twice_area p q v) → ⊥
          v_right gv = inside (pa_up (up_nn gv) pb) pb
            where
              pb : Up (twice_area v a p)
              pb =
                  beside_a m L Corner net v a b D va vb ha hb l x.left
                  (λ e. up_out (twice_area q p a) x.behind
                  (up_is (sym (line_pa v a b p q)) (up_add (mul-pos x.left gv) (nn0 (of0 (twice_area p q b) e)))))
                  (λ k. record { left = up_is (sym (flip a v p)) k; right = qb_up (up_nn gv); ahead = gv; behind = x.behind })

          v_left : Up (twice_area q p v) → ⊥
          v_left gv = inside pa (pb (mul_nonneg (up_nn pa) (up_nn x.behind)))
            where
              pb : Nn (twice_area b v p *ℤ twice_area q p a) → Up (twice_area v a p)
              pb n = up_out (twice_area p q b) x.ahead (up_is (sym (line_pb v a b p q)) (up_add (mul-pos x.left gv) n))

              pa : Up (twice_area b v p)
              pa =
                  beside_b m L Corner net v a b D va vb ha hb l x.left (λ e. pb (nn0 (of0 (twice_area q p a) e)))
                  (λ k. record { left = up_is (sym (flip v b p)) k; right = qa_up (up_nn gv); ahead = x.ahead; behind = gv })

          -- p is v
          same_u : twice_area b v p ≡ pos 0 → twice_area v a p ≡ pos 0 → p.u ≡ v.u
          same_u ea eb =
              eq_of_sub p.u v.u
              (mul-zero (twice_area v a b) (p.u -ℤ v.u) (pos-ne D)
              (place_u v a b p ∙ (λ i. of0 (a.u -ℤ v.u) ea i +ℤ of0 (b.u -ℤ v.u) eb i)))

          same_v : twice_area b v p ≡ pos 0 → twice_area v a p ≡ pos 0 → p.v ≡ v.v
          same_v ea eb =
              eq_of_sub p.v v.v
              (mul-zero (twice_area v a b) (p.v -ℤ v.v) (pos-ne D)
              (place_v v a b p ∙ (λ i. of0 (a.v -ℤ v.v) ea i +ℤ of0 (b.v -ℤ v.v) eb i)))

          at_v : p ≡ v → ⊥
          at_v e = go (only q (subst (λ (z : Flat). L z q) e l))
            where
              go : (q ≡ a) ⊎ (q ≡ b) → ⊥
              go (inl f) = zero_off (ap (twice_area b a) f ∙ flat-second b a) x.right
              go (inr f) = zero_off (ap (twice_area b a) f ∙ flat-first b a) x.right

          v_on : twice_area p q v ≡ pos 0 → ⊥
          v_on g = go (ways (twice_area v a p))
            where
              g' : twice_area q p v ≡ pos 0
              g' = flip q p v ∙ neg0 g

              go : Up (twice_area v a p) ⊎ ((twice_area v a p ≡ pos 0) ⊎ Up (neg_ℤ (twice_area v a p))) → ⊥
              go (inl pb) = inside (pa_up (nn0 g) pb) pb
              go (inr (inl e)) =
                  let ea : twice_area b v p ≡ pos 0 = mul-zero (twice_area q p a) (twice_area b v p) (pos-ne x.behind)
                  (line_pa v a b p q ∙ (λ i. by0 (twice_area a b p) g i +ℤ of0 (twice_area p q b) e i)) in
                  at_v (λ i. record { u = same_u ea e i; v = same_v ea e i })
              go (inr (inr k)) =
                  let pa : Up (neg_ℤ (twice_area b v p)) = up_out (twice_area q p a) x.behind
                  (up_is (sym (line_pa' v a b p q)) (nn_up (nn0 (by0 (twice_area a b p) g')) (mul-pos k x.ahead))) in
                  let qb = qb_up (nn0 g) in
                  let qa : Up (twice_area b v q) = qa_up (nn0 g') in
                  net.free l (net.end va) (record {
                    line = g;
                    after =
                        diff_up (h p) (h v)
                        (up_out (twice_area v a b) D (up_is (sym (low_up m v a b p)) (up_add (mul-pos pa up_a) (up_nn (mul-pos k up_b)))));
                    before =
                        diff_up (h v) (h q)
                        (up_out (twice_area v a b) D (up_is (sym (low_v m v a b q)) (up_add (mul-pos qa up_a) (up_nn (mul-pos qb up_b)))));
                  })

          uncut_chord : ⊥
          uncut_chord = go (ways (twice_area p q v))
            where
              go : Up (twice_area p q v) ⊎ ((twice_area p q v ≡ pos 0) ⊎ Up (neg_ℤ (twice_area p q v))) → ⊥
              go (inl g) = v_right g
              go (inr (inl g)) = v_on g
              go (inr (inr g)) = v_left (up_is (sym (flip q p v)) g)

        pub ear : Ok m L Corner a b
        ear = record {
          uncut = uncut_chord;
          bare = (λ {r} c o. let w = sub_pos (lt_chain o.after o.before) in empty r c (record {
            far = nn0 o.line;
            by_a = up_out (h b -ℤ h a) w (up_is (sym (base_a m v a b r o.line)) (mul-pos (sub_pos o.before) D));
            by_b = up_out (h b -ℤ h a) w (up_is (sym (base_b m v a b r o.line)) (mul-pos (sub_pos o.after) D));
          }));
          bare_back =
              (λ {r} c o. let w = sub_pos (lt_chain o.after o.before) in let e = flip a b r ∙ neg0 o.line in empty r c (record {
                far = nn0 e;
                by_a = up_out (h a -ℤ h b) w (up_is (sym (back_a m v a b r o.line)) (mul-pos (sub_pos o.after) D));
                by_b = up_out (h a -ℤ h b) w (up_is (sym (back_b m v a b r o.line)) (mul-pos (sub_pos o.before) D));
              }));
        }

      -- ---- a corner r on the same side of a b as v
      module _ {r : Flat} (c : Corner r) (rv : Up (twice_area a b r)) where
        side_a : L r a → Up (twice_area v a r) → ⊥
        side_a l rb = empty r c (record {
          far = up_nn rv;
          by_a = beside_b m L Corner net v a b D va vb ha hb l rv (λ e. rb) (λ k. record {
            left = up_is (sym (flip v b r)) k;
            right = up_is (spin v a b ∙ spin a b v) D;
            ahead = up_is (sym (spin r a b)) rv;
            behind = up_is (spin v a r) rb;
          });
          by_b = rb;
        })

        side_b : L r b → Up (twice_area b v r) → ⊥
        side_b l ra = empty r c (record {
          far = up_nn rv;
          by_a = ra;
          by_b = beside_a m L Corner net v a b D va vb ha hb l rv (λ e. ra) (λ k. record {
            left = up_is (sym (flip a v r)) k;
            right = D;
            ahead = up_is (sym (spin r b v)) ra;
            behind = up_is (spin a b r) rv;
          });
        })

        -- the lowest corner but v is a, or b, and r is its other neighbour
        pub next_a : L r a → h a <ℤ h r → h a <ℤ h b → ⊥
        next_a l hr k = go (which (twice_area v a r))
          where
            go : Up (twice_area v a r) ⊎ Nn (neg_ℤ (twice_area v a r)) → ⊥
            go (inl rb) = side_a l rb
            go (inr n) =
                <ℤ_irrefl
                (lt_chain hr
                (diff_up (h r) (h a)
                (up_out (twice_area v a b) D (up_is (sym (low_a m v a b r)) (up_add (mul-pos rv up_a) (mul_nonneg n (up_nn (sub_pos k))))))))

        pub next_b : L r b → h b <ℤ h r → h b <ℤ h a → ⊥
        next_b l hr k = go (which (twice_area b v r))
          where
            go : Up (twice_area b v r) ⊎ Nn (neg_ℤ (twice_area b v r)) → ⊥
            go (inl ra) = side_b l ra
            go (inr n) =
                <ℤ_irrefl
                (lt_chain hr
                (diff_up (h r) (h b)
                (up_out (twice_area v a b) D (up_is (sym (low_b m v a b r)) (up_add (mul-pos rv up_b) (mul_nonneg n (up_nn (sub_pos k))))))))

        -- r is the other neighbour of both
        pub fourth : L r a → L r b → h v <ℤ h r → ⊥
        fourth la lb hr = go (which (twice_area v a r)) (which (twice_area b v r))
          where
            go : Up (twice_area v a r) ⊎ Nn (neg_ℤ (twice_area v a r)) → Up (twice_area b v r) ⊎ Nn (neg_ℤ (twice_area b v r)) → ⊥
            go (inl rb) y = side_a la rb
            go (inr n) (inl ra) = side_b lb ra
            go (inr n) (inr k) =
                off (mul-pos D (sub_pos hr))
                (nn_is (ring (twice_area v a b ∷ h v ∷ h r ∷ []) (var 0 ⊗ (var 1 ⊖ var 2)) (neg (var 0 ⊗ (var 2 ⊖ var 1))) tt)
                (nn_is (sym (low_up m v a b r)) (add_nonneg (mul_nonneg k (up_nn up_a)) (mul_nonneg n (up_nn up_b)))))

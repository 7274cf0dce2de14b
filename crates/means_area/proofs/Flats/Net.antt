-- In a net, a corner v with its neighbours a and b, which are higher: no corner is on a side by v; where the triangle has corners inside,
-- the chord from v to the one farthest from a b may be added. `Ear` has what holds where it has none.
use mathlib.Core.Path.{◌≡◌, sym, ◌∙◌, ap}
use mathlib.Core.Logic.{◌⊎◌, inl, inr}
use mathlib.Core.List.{[], ◌∷◌}
use lib.IntN.{ℤ, pos, neg_ℤ, ◌+ℤ◌, ◌-ℤ◌, ◌*ℤ◌, zero-*ℤ, *ℤ-zero}
use lib.Signed.{◌≤ℤ◌, ◌<ℤ◌, ≤ℤ_refl, <ℤ_irrefl, clash_ℤ}
use Rattle.exact.proofs.Ring.{var, ◌⊕◌, ◌⊖◌, ring}
use Rattle.exact.proofs.Signs.{lt-or-ge, <ℤ-≤ℤ}
use Rattle.exact.proofs.Order.{mul-pos, mul_nonneg, sub_pos, sub_nonneg, lt_chain}
use Rattle.paper.specs.declared.Flat.{Flat}
use Rattle.means_area.specs.Flats.{Up, Nn, twice_area, Cross, height, WithinSegment, Net}
use Rattle.means_area.proofs.Flats.Signs.{up_is, nn_is, up_nn, up_add, nn_up, up_else, up_out, diff_up}
use Rattle.means_area.proofs.Flats.Turns.{In, flip, low_v, low_a, low_b}
use Rattle.means_area.proofs.Flats.Turns.{over_p, over_q, other_q}
use Rattle.means_area.proofs.Flats.Turns.{other_p, left_b, left_a, angle_p, angle_q, along_a, along_b, along-far}

-- the chord x y may be added
pub record Ok (m : ℤ) (L : Flat → Flat → Type 0) (Corner : Flat → Type 0) (x y : Flat) : Type 0 where
  pub uncut : {p q : Flat} → L p q → Cross x y p q → ⊥
  pub bare : {r : Flat} → Corner r → WithinSegment m x y r → ⊥
  pub bare_back : {r : Flat} → Corner r → WithinSegment m y x r → ⊥

-- 0 as a number that is not below 0
pub nn0 : {x : ℤ} → x ≡ pos 0 → Nn x
nn0 e = nn_is (sym e) (≤ℤ_refl (pos 0))

-- a product with 0
pub by0 : (x : ℤ) {y : ℤ} → y ≡ pos 0 → x *ℤ y ≡ pos 0
by0 x e = ap (λ (z : ℤ). x *ℤ z) e ∙ *ℤ-zero x

pub of0 : {x : ℤ} (y : ℤ) → x ≡ pos 0 → x *ℤ y ≡ pos 0
of0 y e = ap (λ (z : ℤ). z *ℤ y) e ∙ zero-*ℤ y

pub neg0 : {x : ℤ} → x ≡ pos 0 → neg_ℤ x ≡ pos 0
neg0 e = ap neg_ℤ e

module _ (m : ℤ) (L : Flat → Flat → Type 0) (Corner : Flat → Type 0) (net : Net m L Corner) where
  abbrev h : Flat → ℤ
  h = height m

  module _ (v a b : Flat) (D : Up (twice_area v a b)) (va : L v a) (vb : L v b) (ha : h v <ℤ h a) (hb : h v <ℤ h b) where
    up_a : Up (h a -ℤ h v)
    up_a = sub_pos ha

    up_b : Up (h b -ℤ h v)
    up_b = sub_pos hb

    -- a corner in the line of v and a, between them by its places; in the line of v and b
    on_a : {p : Flat} → Corner p → twice_area v a p ≡ pos 0 → Up (twice_area b v p) → Up (twice_area a b p) → ⊥
    on_a {p} c e pa pv = net.free va c (record {
      line = e;
      after =
          diff_up (h v) (h p)
          (up_out (twice_area v a b) D (up_is (sym (low_v m v a b p)) (up_add (mul-pos pa up_a) (nn0 (of0 (h b -ℤ h v) e)))));
      before =
          diff_up (h p) (h a)
          (up_out (twice_area v a b) D (up_is (sym (low_a m v a b p)) (up_add (mul-pos pv up_a) (nn0 (of0 (h b -ℤ h a) (neg0 e))))));
    })

    on_b : {p : Flat} → Corner p → twice_area b v p ≡ pos 0 → Up (twice_area v a p) → Up (twice_area a b p) → ⊥
    on_b {p} c e pb pv = net.free vb c (record {
      line = flip v b p ∙ neg0 e;
      after =
          diff_up (h v) (h p)
          (up_out (twice_area v a b) D (up_is (sym (low_v m v a b p)) (nn_up (nn0 (of0 (h a -ℤ h v) e)) (mul-pos pb up_b))));
      before =
          diff_up (h p) (h b)
          (up_out (twice_area v a b) D (up_is (sym (low_b m v a b p)) (up_add (mul-pos pv up_b) (nn0 (of0 (h a -ℤ h b) (neg0 e))))));
    })

    -- a corner p on v's side of a b, which is between v and a where it is in their line, and has a link that crosses v a where it is
    -- beyond: it is on b's side of that line. Of v and b the same
    pub beside_a : {p q : Flat} → L p q → Up (twice_area a b p) → (twice_area v a p ≡ pos 0 → Up (twice_area b v p))
        → (Up (neg_ℤ (twice_area v a p)) → Cross a v p q) → Up (twice_area v a p)
    beside_a l pv on across = up_else (λ e. on_a (net.end l) e (on e) pv) (λ k. net.clear (net.back va) l (across k))

    pub beside_b : {p q : Flat} → L p q → Up (twice_area a b p) → (twice_area b v p ≡ pos 0 → Up (twice_area v a p))
        → (Up (neg_ℤ (twice_area b v p)) → Cross v b p q) → Up (twice_area b v p)
    beside_b l pv on across = up_else (λ e. on_b (net.end l) e (on e) pv) (λ k. net.clear vb l (across k))

    -- ---- the diagonal from v to the corner w of the triangle that is farthest from a b
    module _ (w : Flat) (i : In v a b w) (top : (r : Flat) → Corner r → In v a b r → twice_area a b r ≤ℤ twice_area a b w) where
      wings : Up (twice_area b v w +ℤ twice_area v a w)
      wings = up_add i.by_a (up_nn i.by_b)

      -- farther than w
      beyond : (r : Flat) → Up (twice_area a b r -ℤ twice_area a b w) → Up (twice_area a b r)
      beyond r k = up_is (ring (twice_area a b r ∷ twice_area a b w ∷ []) (var 0 ⊖ var 1 ⊕ var 1) (var 0) tt) (up_add k i.far)

      too_far : {r : Flat} → Corner r → Up (twice_area a b r -ℤ twice_area a b w) → Up (twice_area b v r) → Up (twice_area v a r) → ⊥
      too_far {r} c k ra rb =
          clash_ℤ (diff_up (twice_area a b w) (twice_area a b r) k) (top r c (record { far = up_nn (beyond r k); by_a = ra; by_b = rb }))

      module _ {p q : Flat} (l : L p q) (x : Cross v w p q) where
        p_far : twice_area a b q ≤ℤ twice_area a b p → ⊥
        p_far k = too_far (net.end l) over pa (pb (up_nn pa))
          where
            d : Nn (twice_area a b p -ℤ twice_area a b q)
            d = sub_nonneg k

            over : Up (twice_area a b p -ℤ twice_area a b w)
            over =
                up_out (twice_area w v q +ℤ twice_area v w p) (up_add x.right (up_nn x.left))
                (up_is (sym (over_p v a b w p q)) (up_add (mul-pos x.ahead wings) (mul_nonneg (up_nn x.left) d)))

            gb : Up (twice_area p q b)
            gb = up_out (twice_area b v w +ℤ twice_area v a w) wings
                (up_is (sym (left_b v a b w p q))
                (up_add (up_add (mul-pos D x.ahead) (mul_nonneg i.far (up_nn x.behind))) (mul_nonneg (up_nn i.by_a) d)))

            pb : Nn (twice_area b v p) → Up (twice_area v a p)
            pb n =
                up_out (twice_area b v w) i.by_a
                (up_is (sym (angle_p v a b w p)) (up_add (mul-pos D x.left) (mul_nonneg (up_nn i.by_b) n)))

            pa : Up (twice_area b v p)
            pa = beside_b l (beyond p over) (λ e. pb (nn0 e)) (λ n. record {
              left = up_is (sym (flip v b p)) n;
              right =
                  up_out (twice_area v w p) x.left
                  (up_is (sym (other_q v a b w p q)) (up_add (mul-pos x.behind i.by_a) (mul_nonneg (up_nn x.right) (up_nn n))));
              ahead = gb;
              behind = x.behind;
            })

        q_far : twice_area a b p ≤ℤ twice_area a b q → ⊥
        q_far k = too_far (net.end (net.back l)) over (qa (up_nn qb)) qb
          where
            d : Nn (twice_area a b q -ℤ twice_area a b p)
            d = sub_nonneg k

            over : Up (twice_area a b q -ℤ twice_area a b w)
            over =
                up_out (twice_area w v q +ℤ twice_area v w p) (up_add x.right (up_nn x.left))
                (up_is (sym (over_q v a b w p q)) (up_add (mul-pos x.ahead wings) (mul_nonneg (up_nn x.right) d)))

            ga : Up (twice_area p q a)
            ga = up_out (twice_area b v w +ℤ twice_area v a w) wings
                (up_is (sym (left_a v a b w p q))
                (up_add (up_add (mul-pos D x.ahead) (mul_nonneg i.far (up_nn x.behind))) (mul_nonneg (up_nn i.by_b) d)))

            qa : Nn (twice_area v a q) → Up (twice_area b v q)
            qa n =
                up_out (twice_area v a w) i.by_b
                (up_is (sym (angle_q v a b w q)) (up_add (mul-pos D x.right) (mul_nonneg (up_nn i.by_a) n)))

            qb : Up (twice_area v a q)
            qb = beside_a (net.back l) (beyond q over) (λ e. qa (nn0 e)) (λ n. record {
              left = up_is (sym (flip a v q)) n;
              right =
                  up_out (twice_area w v q) x.right
                  (up_is (sym (other_p v a b w p q)) (up_add (mul-pos x.behind i.by_b) (mul_nonneg (up_nn x.left) (up_nn n))));
              ahead = x.behind;
              behind = ga;
            })

        uncut_diagonal : ⊥
        uncut_diagonal = go (lt-or-ge (twice_area a b p) (twice_area a b q))
          where
            go : (twice_area a b p <ℤ twice_area a b q) ⊎ (twice_area a b q ≤ℤ twice_area a b p) → ⊥
            go (inl k) = q_far (<ℤ-≤ℤ k)
            go (inr k) = p_far k

      pub higher : h v <ℤ h w
      higher =
          diff_up (h v) (h w)
          (up_out (twice_area v a b) D (up_is (sym (low_v m v a b w)) (up_add (mul-pos i.by_a up_a) (up_nn (mul-pos i.by_b up_b)))))

      pub diagonal : Ok m L Corner v w
      diagonal = record {
        uncut = uncut_diagonal;
        bare = (λ {r} c o. let t = sub_pos (lt_chain o.after o.before) in
            too_far c (up_out (h w -ℤ h v) t (up_is (sym (along-far m v a b w r o.line)) (mul-pos (sub_pos o.before) wings)))
            (up_out (h w -ℤ h v) t (up_is (sym (along_a m v a b w r o.line)) (mul-pos (sub_pos o.after) i.by_a)))
            (up_out (h w -ℤ h v) t (up_is (sym (along_b m v a b w r o.line)) (mul-pos (sub_pos o.after) i.by_b))));
        bare_back = (λ c o. <ℤ_irrefl (lt_chain higher (lt_chain o.after o.before)));
      }

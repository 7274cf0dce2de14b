-- Where all corners are on one side of a plane through the point, the winding is 0: from an apex on that side no tetrahedron holds it.
use mathlib.Core.Path.{◌≡◌, refl, sym, ◌∙◌, ap, ap₂}
use mathlib.Core.Bool.{Bool, true, false}
use mathlib.Core.Logic.{◌⊎◌, inl, inr}
use mathlib.Core.List.{List, [], ◌∷◌, map}
use Prim.Native.Nat.{ℕ, zero, suc, ◌<◌}
use native.Mathlib.Omega.{arith}
use lib.IntN.{ℤ, pos, neg_ℤ, ◌+ℤ◌, ◌-ℤ◌, ◌*ℤ◌}
use lib.ListN.{length, length-map, get_or}
use Rattle.sets.specs.Word.{dig}
use Rattle.sets.proofs.Ones.{dig-below}
use Rattle.exact.proofs.Ring.{var, ◌⊕◌, ◌⊖◌, ◌⊗◌, neg, ring}
use Rattle.exact.proofs.Order.{whole_nonneg, mul-pos, mul_nonneg}
use Rattle.paper.specs.Points.{origin, minus, dot, det, above, is_origin}
use Rattle.paper.specs.Polygon.{Polygon}
use Rattle.paper.specs.Drawing.{Wire}
use Rattle.paper.specs.Loops.{Loop, loop_at, polygon}
use Rattle.paper.specs.declared.Point.{Point}
use Rattle.paper_laws.specs.Planes.{InOwnPlane}
use Rattle.paper_laws.proofs.Wires.{polygon_length}
use Rattle.paper_laws.proofs.Points.{origin_yes, origin_no, self_pos}
use Rattle.paper_laws.proofs.Vectors.{num, vec, k as con-s, x as var-s, o, v, negs, ◌+s◌, ◌-s◌, ◌*s◌, ◌·◌, dets, ◌+v◌, ◌-v◌, ◌*v◌, vring}
use Rattle.means_area.specs.Flats.{Up, Nn}
use Rattle.means_area.proofs.Flats.Signs.{up_is, nn_is, up_nn, up_add, zero_off, which}
use Rattle.means_inside.proofs.Beams.{above_yes}
use Rattle.means_inside.proofs.Rounds.{not_above}
use Rattle.means_solid.specs.Solid.{Face}
use Rattle.means_loops.specs.Path.{ClosedPath}
use Rattle.means_check.proofs.Sums.{sum_to}
use Rattle.means_check.proofs.FaceSums.{in_way, faces_same, faces-dot}
use Rattle.means_region.specs.Tetra.{alternate, holds}
use Rattle.means_region.specs.Winding.{OnceEachWay, away, fan_holds, face_holds, rounds, OffPlanes, NoTwoInPlane, Ahead}
use Rattle.means_region.proofs.Near.{near}
use Rattle.means_region.proofs.Apex.{near_by, near_apart, any}
use Rattle.means_region.proofs.Counts as counts

alternate-none : (x y z w : Bool) → (x ≡ true → y ≡ false → z ≡ true → w ≡ false → ⊥)
    → (x ≡ false → y ≡ true → z ≡ false → w ≡ true → ⊥) → alternate x y z w ≡ pos 0
unfolding alternate
alternate-none true false true false f g = absurd (f refl refl refl refl)
alternate-none false true false true f g = absurd (g refl refl refl refl)
alternate-none true true y z f g = refl
alternate-none true false true true f g = refl
alternate-none true false false z f g = refl
alternate-none false false y z f g = refl
alternate-none false true true z f g = refl
alternate-none false true false false f g = refl

module _ (m : Point) where
  holds-none : (a b c d : Point) → Up (dot m a) → Up (dot m b) → Up (dot m c) → Up (dot m d) → holds a b c d ≡ pos 0
  unfolding holds
  holds-none a b c d ua ub uc ud =
      alternate-none (above (det b c d)) (above (det a c d)) (above (det a b d)) (above (det a b c))
      (λ p q r s.
      zero_off whole
      (up_is (regroup (dot m a *ℤ det b c d) (dot m b) (det a c d) (dot m c *ℤ det a b d) (dot m d) (det a b c))
      (up_add (up_add (up_add (mul-pos ua (above_yes (det b c d) p)) (mul_nonneg (up_nn ub) (not_above (det a c d) q)))
      (up_nn (mul-pos uc (above_yes (det a b d) r)))) (mul_nonneg (up_nn ud) (not_above (det a b c) s)))))
      (λ p q r s.
      zero_off (ap neg_ℤ whole)
      (up_is (regroup' (dot m a) (det b c d) (dot m b *ℤ det a c d) (dot m c) (det a b d) (dot m d *ℤ det a b c))
      (up_add (up_add (up_add (mul-pos ub (above_yes (det a c d) q)) (mul_nonneg (up_nn ua) (not_above (det b c d) p)))
      (up_nn (mul-pos ud (above_yes (det a b c) s)))) (mul_nonneg (up_nn uc) (not_above (det a b d) r)))))
    where
      whole : dot m a *ℤ det b c d -ℤ dot m b *ℤ det a c d +ℤ dot m c *ℤ det a b d -ℤ dot m d *ℤ det a b c ≡ pos 0
      whole =
          vring (vec m ∷ vec a ∷ vec b ∷ vec c ∷ vec d ∷ [])
          ((v 0 · v 1) *s dets (v 2) (v 3) (v 4) -s (v 0 · v 2) *s dets (v 1) (v 3) (v 4) +s (v 0 · v 3) *s dets (v 1) (v 2) (v 4)
          -s (v 0 · v 4) *s dets (v 1) (v 2) (v 3)) (con-s (pos 0)) tt

      regroup : (p x y q z w : ℤ) → p +ℤ x *ℤ neg_ℤ y +ℤ q +ℤ z *ℤ neg_ℤ w ≡ p -ℤ x *ℤ y +ℤ q -ℤ z *ℤ w
      regroup p x y q z w =
          ring (p ∷ x ∷ y ∷ q ∷ z ∷ w ∷ []) (var 0 ⊕ var 1 ⊗ neg (var 2) ⊕ var 3 ⊕ var 4 ⊗ neg (var 5))
          (var 0 ⊖ var 1 ⊗ var 2 ⊕ var 3 ⊖ var 4 ⊗ var 5) tt

      regroup' : (x y p z w q : ℤ) → p +ℤ x *ℤ neg_ℤ y +ℤ q +ℤ z *ℤ neg_ℤ w ≡ neg_ℤ (x *ℤ y -ℤ p +ℤ z *ℤ w -ℤ q)
      regroup' x y p z w q =
          ring (x ∷ y ∷ p ∷ z ∷ w ∷ q ∷ []) (var 2 ⊕ var 0 ⊗ neg (var 1) ⊕ var 5 ⊕ var 3 ⊗ neg (var 4))
          (neg (var 0 ⊗ var 1 ⊖ var 2 ⊕ var 3 ⊗ var 4 ⊖ var 5)) tt

  abbrev Before : Polygon → Type 0
  Before g = (i : ℕ) → i < length g → Up (dot m (get_or g i origin))

  fan-none : (q a b : Point) (r : Polygon) → Up (dot m q) → Before (a ∷ (b ∷ r)) → fan_holds q a (b ∷ r) ≡ pos 0
  unfolding fan_holds
  fan-none q a b [] u f = refl
  fan-none q a b (c ∷ r) u f =
      ap₂ ◌+ℤ◌ (holds-none q a b c u (f 0 (omega arith)) (f 1 (omega arith)) (f 2 (omega arith)))
      (fan-none q a c r u (λ i l. less i l))
    where
      less : (i : ℕ) → i < length (a ∷ (c ∷ r)) → Up (dot m (get_or (a ∷ (c ∷ r)) i origin))
      less zero l = f 0 (omega arith)
      less (suc i) l = f (suc (suc i)) (omega arith)

  face-none : (q : Point) (g : Polygon) → Up (dot m q) → Before g → face_holds q g ≡ pos 0
  unfolding face_holds fan_holds
  face-none q [] u f = refl
  face-none q (a ∷ []) u f = refl
  face-none q (a ∷ (b ∷ r)) u f = fan-none q a b r u f

-- ---- a solid

module _ (d : Wire) (cs : List Loop) (taken turned : List Bool) (n : ℤ) (p : Point) where
  rounds-none : (a : Point) → ((j : ℕ) → Face d cs taken turned j → face_holds a (counts.seen d cs taken turned n p j) ≡ pos 0)
      → rounds d cs taken turned n p a ≡ pos 0
  rounds-none a h =
      faces_same cs taken turned (λ l. face_holds a (map (away n p) (polygon d l))) (λ l. dot origin origin)
      (λ j t. h j t ∙ vring [] (con-s (pos 0)) (o · o) tt)
      ∙ faces-dot cs taken turned origin (λ l. origin)
      ∙ vring (vec (sum_to (length cs) (λ k. in_way (dig taken k) (dig turned k) origin)) ∷ []) (o · v 0) (con-s (pos 0)) tt

  module _ (paths : (j : ℕ) → j < length cs → ClosedPath d (loop_at cs j)) (own : (j : ℕ) → j < length cs → InOwnPlane (polygon d
      (loop_at cs j)))
      (s : OnceEachWay d cs taken turned) (off : OffPlanes d cs taken turned n p) (m : Point) (ahead : Ahead d cs taken turned n p m) where
    abbrev seen : ℕ → Polygon
    seen = counts.seen d cs taken turned n p

    all_ahead : (j : ℕ) → Face d cs taken turned j → Before m (seen j)
    all_ahead j f i l =
        up_is (ap (dot m) (sym (counts.seen_at d cs taken turned n p j i l)))
        (ahead j i f (omega (arith, length-map (polygon d (loop_at cs j)) (away n p))))

    -- from an apex on that side
    on_side : (q : Point) → Up (dot m q) → rounds d cs taken turned n p q ≡ pos 0
    on_side q u = rounds-none q (λ j f. face-none m q (seen j) u (all_ahead j f))

    turned_round : (e : Point) → NoTwoInPlane d cs taken turned n p e → NoTwoInPlane d cs taken turned n p (minus origin e)
    turned_round e se j i l f q r z =
        let x = away n p (get_or (polygon d (loop_at cs j)) i origin) in
        let y = away n p (get_or (polygon d (loop_at cs j)) l origin) in
        se j i l f q r (vring (vec e ∷ vec x ∷ vec y ∷ []) (dets (v 0) (v 1) (v 2)) (negs (dets (o -v v 0) (v 1) (v 2))) tt ∙ ap neg_ℤ z)

    pub far : (a : Point) → NoTwoInPlane d cs taken turned n p a → rounds d cs taken turned n p a ≡ pos 0
    far a sa = go (is_origin m) refl (which (neg_ℤ (dot m a)))
      where
        by : (e : Point) → NoTwoInPlane d cs taken turned n p e → Nn (dot m e) → Up (dot m m) → rounds d cs taken turned n p a ≡ pos 0
        by e se w u =
            let c = near_by d cs taken turned n p paths own s off e m se in
            any d cs taken turned n p paths own s off a (near e m c.0) sa
            (near_apart d cs taken turned n p paths own s off e m c.0 c.1)
            ∙ on_side (near e m c.0)
            (up_is (vring (num (pos c.0) ∷ vec e ∷ vec m ∷ []) ((v 2 · v 2) +s var-s 0 *s (v 2 · v 1)) (v 2 ·
            ((var-s 0 *v v 1) +v v 2)) tt)
            (up_add u (mul_nonneg (whole_nonneg c.0) w)))

        nothing : m ≡ origin → rounds d cs taken turned n p a ≡ pos 0
        nothing e =
            rounds-none a (λ j f. absurd (zero_off
            (ap (λ (q : Point). dot q (away n p (get_or (polygon d (loop_at cs j)) 0 origin))) e
            ∙ vring (vec (away n p (get_or (polygon d (loop_at cs j)) 0 origin)) ∷ []) (o · v 0) (con-s (pos 0)) tt)
            (ahead j 0 f (omega (arith, (paths j (dig-below taken s.set j f)).three, polygon_length d (loop_at cs j))))))

        go : (t : Bool) → is_origin m ≡ t → Up (neg_ℤ (dot m a)) ⊎ Nn (neg_ℤ (neg_ℤ (dot m a))) → rounds d cs taken turned n p a ≡ pos 0
        go true e w = nothing (origin_yes m e)
        go false e (inr w) =
            by a sa (nn_is (ring (dot m a ∷ []) (neg (neg (var 0))) (var 0) tt) w) (self_pos m (origin_no e))
        go false e (inl w) =
            by (minus origin a) (turned_round a sa)
            (nn_is (vring (vec m ∷ vec a ∷ []) (negs (v 0 · v 1)) (v 0 · (o -v v 1)) tt) (up_nn w)) (self_pos m (origin_no e))

-- A ring in a plane of space, seen along any axis that the plane is not along, gives the same answer.
-- All turns change by one factor, and a ray is asked by turns alone. Where the factor is below 0 the ray is asked the other way.
use mathlib.Core.Path.{◌≡◌, refl, sym, ◌∙◌, ap, subst}
use mathlib.Core.Bool.{Bool, true, xor}
use mathlib.Core.Logic.{inl, inr}
use mathlib.Core.List.{List, [], ◌∷◌, map}
use lib.IntN.{ℤ, pos, neg_ℤ, ◌+ℤ◌, ◌-ℤ◌, ◌*ℤ◌, *ℤ-zero}
use Rattle.lists.specs.Lists.{all}
use Rattle.lists.proofs.Truth.{and_left, and_right}
use Rattle.exact.proofs.Ring.{var, con, ◌⊕◌, ◌⊖◌, ◌⊗◌, neg, ring}
use Rattle.exact.proofs.Signs.{mul-zero}
use Rattle.paper.specs.Points.{pt, plus, minus, times, dot, is_zero}
use Rattle.paper.specs.Polygon.{normal, corner, plane_side, one_plane, axis, seen, meets_ray, where_flat, lies}
use Rattle.paper.specs.declared.Point.{Point}
use Rattle.paper.specs.declared.Flat.{Flat}
use Rattle.paper.specs.declared.Axis.{Axis}
use Rattle.paper.specs.declared.Axis.TheVariants.{AlongX, AlongY, AlongZ}
use Rattle.paper_laws.proofs.Points.{zero_yes}
use Rattle.paper_laws.proofs.Vectors.{num, vec, x, ◌+s◌, ◌*s◌, ◌·◌, v, ◌+v◌, ◌-v◌, ◌*v◌, vring}
use Rattle.means_area.specs.Rings.{Of, Chain, Link}
use Rattle.means_area.specs.Flats.{Up, Nn, twice_area}
use Rattle.means_area.specs.Space.{through}
use Rattle.means_area.proofs.Space.Maps.{map_link, end_of}
use Rattle.means_area.proofs.Space.Views.{axis_real, view_one}
use Rattle.means_area.proofs.Space.{none-through}
use Rattle.means_inside.specs.Beams.{odd_along, round, right, beam, facing, OffEverySide, odd}
use Rattle.means_inside.specs.Touch.{Touch}
use Rattle.means_inside.specs.Means.{big}
use Rattle.means_inside.specs.Convex.{handed}
use Rattle.means_inside.specs.Theorems.{AnyAxis}
use Rattle.means_inside.proofs.Triangle.{by_ray, self_up}
use Rattle.means_inside.proofs.Sides.{link_onto}
use Rattle.means_inside.proofs.Views.{shown, shown_real, On, turns, between_too}
use Rattle.means_inside.proofs.Mirror.{ray_over, low_over, Scaled, scaled, ray, ray_is, ray_up, mirrored, mirror}
use Rattle.means_inside.proofs.Inside.{agree}

-- ---- a ring seen in two ways
module _ (B : Flat → Flat) (S T : Point → Flat) (f f' : Flat → Flat → Bool) where
  walk_two : (a : Point) (l : List Point) (e : Point) → ((b c : Point) → Chain a l e b c → f (B (S b)) (B (S c)) ≡ f' (B (T b)) (B (T c)))
      → odd_along f (B (S a)) (map B (map S l)) (B (S e)) ≡ odd_along f' (B (T a)) (map B (map T l)) (B (T e))
  walk_two a [] e h = h a e (inl (refl, refl))
  walk_two a (b ∷ l) e h = λ i. xor (h a b (inl (inl (refl, refl))) i) (walk_two b l e (λ c d k. h c d (inr k)) i)

  round_two : (g : List Point) → ((b c : Point) → Link g b c → f (B (S b)) (B (S c)) ≡ f' (B (T b)) (B (T c)))
      → round f (map B (map S g)) ≡ round f' (map B (map T g))
  round_two [] h = refl
  round_two (a ∷ l) h = walk_two a l a h

-- ---- a direction in the plane
along : Axis → Point → Point
along AlongX n = pt n.y (neg_ℤ n.x) (pos 0)
along AlongY n = pt n.y (neg_ℤ n.x) (pos 0)
along AlongZ n = pt n.z (pos 0) (neg_ℤ n.x)

along-across : (i : Axis) (n : Point) → dot n (along i n) ≡ pos 0
unfolding dot along
along-across AlongX n =
    ring (n.x ∷ n.y ∷ n.z ∷ []) (var 0 ⊗ var 1 ⊕ var 1 ⊗ neg (var 0) ⊕ var 2 ⊗ con (pos 0)) (con (pos 0)) tt
along-across AlongY n =
    ring (n.x ∷ n.y ∷ n.z ∷ []) (var 0 ⊗ var 1 ⊕ var 1 ⊗ neg (var 0) ⊕ var 2 ⊗ con (pos 0)) (con (pos 0)) tt
along-across AlongZ n =
    ring (n.x ∷ n.y ∷ n.z ∷ []) (var 0 ⊗ var 2 ⊕ var 1 ⊗ con (pos 0) ⊕ var 2 ⊗ neg (var 0)) (con (pos 0)) tt

along_real : (i : Axis) (n p : Point) → (through i n ≡ pos 0 → ⊥) → plus p (along i n) ≡ p → ⊥
unfolding plus along
along_real AlongX n p h e =
    h (ring (p.y ∷ n.x ∷ []) (var 1) (var 0 ⊖ (var 0 ⊕ neg (var 1))) tt ∙ ap (λ (q : Point). p.y -ℤ q.y) e
    ∙ ring (p.y ∷ []) (var 0 ⊖ var 0) (con (pos 0)) tt)
along_real AlongY n p h e =
    h (ring (p.x ∷ n.y ∷ []) (var 1) ((var 0 ⊕ var 1) ⊖ var 0) tt ∙ ap (λ (q : Point). q.x -ℤ p.x) e
    ∙ ring (p.x ∷ []) (var 0 ⊖ var 0) (con (pos 0)) tt)
along_real AlongZ n p h e =
    h (ring (p.x ∷ n.z ∷ []) (var 1) ((var 0 ⊕ var 1) ⊖ var 0) tt ∙ ap (λ (q : Point). q.x -ℤ p.x) e
    ∙ ring (p.x ∷ []) (var 0 ⊖ var 0) (con (pos 0)) tt)

big-seen : (d : ℤ) (i : Axis) (a : Point) → big d (seen i a) ≡ seen i (times d a)
unfolding seen times
big-seen d AlongX a = refl
big-seen d AlongY a = refl
big-seen d AlongZ a = refl

module _ (n c : Point) (d : ℤ) (kd : Up d) (g : List Point) (flat : (a : Point) → Of a g → dot n (minus a c) ≡ pos 0) (p : Point)
    (on : On n (times d c) p) where
  abbrev E : Point → Type 0
  E = On n (times d c)

  larger : (a : Point) → Of a g → E (times d a)
  larger a o =
      vring (vec n ∷ vec a ∷ vec c ∷ num d ∷ []) (v 0 · (x 3 *v v 1 -v x 3 *v v 2)) (x 3 *s (v 0 · (v 1 -v v 2))) tt
      ∙ ap (λ (z : ℤ). d *ℤ z) (flat a o) ∙ *ℤ-zero d

  module _ (i j : Axis) (hi : through i n ≡ pos 0 → ⊥) (hj : through j n ≡ pos 0 → ⊥) where
    -- on a side in one view, on it in the other
    touch_too : Touch (seen i p) (map (big d) (map (seen i) g)) → Touch (seen j p) (map (big d) (map (seen j) g))
    touch_too t = go (map_link (big d) (map (seen i) g) t.a t.b t.side)
      where
        at : (a b : Point) → Link g a b → t.a ≡ seen i (times d a) → t.b ≡ seen i (times d b)
            → Touch (seen j p) (map (big d) (map (seen j) g))
        at a b l ea eb =
            let w = end_of g a b l in
            let oa = larger a w.0 in
            let ob = larger b w.1 in
            let z : twice_area (seen i (times d a)) (seen i (times d b)) (seen i p) ≡ pos 0 =
            (λ s. twice_area (sym ea s) (sym eb s) (seen i p)) ∙ t.line in
            let k = link_onto (big d) (map (seen j) g) (seen j a) (seen j b) (link_onto (seen j) g a b l) in
            record {
              a = seen j (times d a);
              b = seen j (times d b);
              side = subst (λ (y : Flat). Link (map (big d) (map (seen j) g)) y (seen j (times d b))) (big-seen d j a)
                  (subst (λ (y : Flat). Link (map (big d) (map (seen j) g)) (big d (seen j a)) y) (big-seen d j b) k);
              line = mul-zero (shown i n) (twice_area (seen j (times d a)) (seen j (times d b)) (seen j p)) (shown_real i n hi)
                  (ring (shown i n ∷ twice_area (seen j (times d a)) (seen j (times d b)) (seen j p) ∷ []) (var 0 ⊗ var 1) (var 1 ⊗ var 0) tt
                  ∙ sym (turns n (times d c) i j (times d a) (times d b) p oa ob on) ∙ ap (λ (y : ℤ). y *ℤ shown j n) z
                  ∙ ring (shown j n ∷ []) (con (pos 0) ⊗ var 0) (con (pos 0)) tt);
              mid = between_too n (times d c) i j hi (times d a) (times d b) p oa ob on z
                  (subst (λ (y : ℤ). Nn (neg_ℤ y)) (λ s. facing (seen i p) (ea s) (eb s)) t.mid);
            }

        go : (b : Flat) × (e : Flat) × Link (map (seen i) g) b e × (t.a ≡ big d b) × (t.b ≡ big d e)
            → Touch (seen j p) (map (big d) (map (seen j) g))
        go w =
            let r = map_link (seen i) g w.0 w.1 w.2 in
            at r.0 r.1 r.2 (w.3 ∙ ap (big d) r.3 ∙ big-seen d i r.0) (w.4 ∙ ap (big d) r.4 ∙ big-seen d i r.1)

    -- ---- the ray
    abbrev q : Point
    q = plus p (along i n)

    step : dot n (minus (plus p (along i n)) p) ≡ pos 0
    step = vring (vec n ∷ vec p ∷ vec (along i n) ∷ []) (v 0 · ((v 1 +v v 2) -v v 1)) (v 0 · v 2) tt ∙ along-across i n

    on_q : E (plus p (along i n))
    on_q =
        vring (vec n ∷ vec p ∷ vec (along i n) ∷ vec (times d c) ∷ []) (v 0 · ((v 1 +v v 2) -v v 3)) (v 0 · (v 1 -v v 3) +s v 0 · v 2) tt
        ∙ (λ t. on t +ℤ along-across i n t)

    -- it is seen as another point than p
    real : (l : Axis) → (through l n ≡ pos 0 → ⊥) → seen l (plus p (along i n)) ≡ seen l p → ⊥
    real l hl e = along_real i n p hi (view_one l n (plus p (along i n)) p hl step e)

    module _ (s : Scaled (shown i n) (shown j n)) where
      abbrev r : Flat
      r = ray s.hand (seen j p) (seen j q)

      right_too : (a : Point) → E a → right (seen i p) (seen i q) (seen i a) ≡ right (seen j p) r (seen j a)
      unfolding right
      right_too a ea =
          low_over s.k s.l s.upk s.upl (twice_area (seen i p) (seen i q) (seen i a)) (twice_area (seen j p) r (seen j a))
          (s.is (twice_area (seen i p) (seen i q) (seen i a)) (twice_area (seen j p) (seen j q) (seen j a)) (turns n (times d c) i j p q a on on_q ea)
          ∙ ap (λ (z : ℤ). z *ℤ s.l) (sym (ray_is s.hand (seen j p) (seen j q) (seen j a))))

      beam_too : (a b : Point) → E a → E b
          → beam (seen i p) (seen i q) (seen i a) (seen i b) ≡ mirrored s.hand (seen j p) r (seen j a) (seen j b)
      unfolding beam
      beam_too a b ea eb =
          (λ t. meets_ray (right_too a ea t) (right_too b eb t) (twice_area (seen i a) (seen i b) (seen i p)))
          ∙ ray_over s.k s.l s.upk s.upl (seen i p) (right (seen j p) r (seen j a)) (right (seen j p) r (seen j b))
          (twice_area (seen i a) (seen i b) (seen i p)) (handed s.hand (twice_area (seen j a) (seen j b) (seen j p)))
          (s.is (twice_area (seen i a) (seen i b) (seen i p)) (twice_area (seen j a) (seen j b) (seen j p)) (turns n (times d c) i j a b p ea eb on))

      odd_too : OffEverySide (seen i p) (map (big d) (map (seen i) g)) → OffEverySide (seen j p) (map (big d) (map (seen j) g))
          → odd (seen i p) (map (big d) (map (seen i) g)) ≡ odd (seen j p) (map (big d) (map (seen j) g))
      odd_too ci cj =
          by_ray (seen i p) (seen i q) (map (big d) (map (seen i) g)) ci (self_up (seen i p) (seen i q) (real i hi))
          ∙ round_two (big d) (seen i) (seen j) (beam (seen i p) (seen i q)) (mirrored s.hand (seen j p) r) g (λ a b l.
          let w = end_of g a b l in
          (λ t. beam (seen i p) (seen i q) (big-seen d i a t) (big-seen d i b t))
          ∙ beam_too (times d a) (times d b) (larger a w.0) (larger b w.1)
          ∙ (λ t. mirrored s.hand (seen j p) r (sym (big-seen d j a) t) (sym (big-seen d j b) t)))
          ∙ mirror s.hand (seen j p) r (map (big d) (map (seen j) g)) cj
          ∙ sym (by_ray (seen j p) r (map (big d) (map (seen j) g)) cj (ray_up s.hand (seen j p) (seen j q) (real j hj)))

  -- of any ring in a plane
  pub same_seen : (i j : Axis) → (through i n ≡ pos 0 → ⊥) → (through j n ≡ pos 0 → ⊥)
      → where_flat (seen i p) d (map (seen i) g) ≡ where_flat (seen j p) d (map (seen j) g)
  same_seen i j hi hj =
      agree d kd (seen i p) (seen j p) (map (seen i) g) (map (seen j) g) (touch_too i j hi hj) (touch_too j i hj hi)
      (odd_too i j hi hj (scaled (shown i n) (shown j n) (shown_real i n hi) (shown_real j n hj)))

-- of a polygon in its own plane
pub any_axis : AnyAxis
unfolding one_plane plane_side lies
any_axis g e a h d k p on =
    same_seen (normal g) (corner g) d k g
    (λ b o. zero_yes (dot (normal g) (minus b (corner g))) (all-at (λ z. is_zero (dot (normal g) (minus z (corner g)))) g e b o)) p on
    (axis (normal g)) a (axis_real (normal g) (λ q. h (ap (through a) q ∙ none-through a))) h
  where
    all-at : (f : Point → Bool) (l : List Point) → all f l ≡ true → (b : Point) → Of b l → f b ≡ true
    all-at f [] t b o = absurd o
    all-at f (c ∷ l) t b (inl q) = ap f q ∙ and_left (f c) (all f l) (unfold all in t)
    all-at f (c ∷ l) t b (inr o) = all-at f l (and_right (f c) (all f l) (unfold all in t)) b o

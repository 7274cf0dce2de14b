-- What a view along an axis shows of a plane: its turns have the sign of the determinants with the normal, or all the other.
use mathlib.Core.Path.{◌≡◌, refl, sym, ◌∙◌, ap, ap₂}
use mathlib.Core.Logic.{◌⊎◌, inl, inr}
use mathlib.Core.List.{List, [], ◌∷◌, map}
use lib.IntN.{ℤ, pos, neg_ℤ, ◌+ℤ◌, ◌*ℤ◌}
use Rattle.lists.specs.Lists.{sides, sides_from}
use Rattle.exact.proofs.Ring.{var, con, ◌⊕◌, ◌⊖◌, ◌⊗◌, neg, ring}
use Rattle.exact.proofs.Order.{mul-pos, mul_nonneg}
use Rattle.paper.specs.Points.{origin, plus, minus, times, dot, cross, det, sum}
use Rattle.paper.specs.Polygon.{Polygon, normal, seen}
use Rattle.paper.specs.declared.Point.{Point}
use Rattle.paper.specs.declared.Axis.{Axis}
use Rattle.paper.specs.declared.Axis.TheVariants.{AlongX, AlongY, AlongZ}
use Rattle.paper_laws.proofs.Vectors.{vec, k, v, ◌·◌, dets, ◌-v◌, ◌*v◌, ◌×v◌, vring}
use Rattle.means_area.specs.Flats.{Up, Nn, twice_area, area_part, area_along, area}
use Rattle.means_area.proofs.Flats.Signs.{up_is, nn_is, up_nn, up_out, nn_out, ways}
use Rattle.means_inside.specs.Convex.{Hand, lefts, rights, handed}
use Rattle.means_inside.proofs.Views.{shown, turn_shown}

-- ---- the area of a view is the normal's coordinate

shown_plus : (i : Axis) (p q : Point) → shown i (plus p q) ≡ shown i p +ℤ shown i q
unfolding plus
shown_plus AlongX p q = refl
shown_plus AlongY p q = ring (p.y ∷ q.y ∷ []) (neg (var 0 ⊕ var 1)) (neg (var 0) ⊕ neg (var 1)) tt
shown_plus AlongZ p q = refl

part_shown : (i : Axis) (p q : Point) → area_part (seen i p) (seen i q) ≡ shown i (cross p q)
unfolding area_part seen cross
part_shown AlongX p q = refl
part_shown AlongY p q =
    ring (p.x ∷ p.z ∷ q.x ∷ q.z ∷ []) (var 0 ⊗ var 3 ⊖ var 1 ⊗ var 2) (neg (var 1 ⊗ var 2 ⊖ var 0 ⊗ var 3)) tt
part_shown AlongZ p q = refl

shown_none : (i : Axis) → shown i origin ≡ pos 0
shown_none AlongX = refl
shown_none AlongY = refl
shown_none AlongZ = refl

along_shown : (i : Axis) (x : Point) (l : List Point) (e : Point)
    → area_along (seen i x) (map (seen i) l) (seen i e) ≡ shown i (sum (sides_from cross e x l))
unfolding sum sides_from
along_shown i x [] e =
    part_shown i x e ∙ ring (shown i (cross x e) ∷ []) (var 0) (var 0 ⊕ con (pos 0)) tt
    ∙ ap (λ (z : ℤ). shown i (cross x e) +ℤ z) (sym (shown_none i)) ∙ sym (shown_plus i (cross x e) origin)
along_shown i x (y ∷ l) e =
    ap₂ ◌+ℤ◌ (part_shown i x y) (along_shown i y l e) ∙ sym (shown_plus i (cross x y) (sum (sides_from cross e y l)))

pub area_shown : (i : Axis) (g : Polygon) → area (map (seen i) g) ≡ shown i (normal g)
unfolding normal sides sum
area_shown i [] = sym (shown_none i)
area_shown i (x ∷ l) = along_shown i x l x

-- ---- turns

shown_times : (i : Axis) (z : ℤ) (p : Point) → shown i (times z p) ≡ z *ℤ shown i p
unfolding times
shown_times AlongX z p = refl
shown_times AlongY z p = ring (z ∷ p.y ∷ []) (neg (var 0 ⊗ var 1)) (var 0 ⊗ neg (var 1)) tt
shown_times AlongZ z p = refl

module _ (i : Axis) (n : Point) where
  -- |n|^2 times a turn in the view is the determinant times what is shown of n
  in_view : (a b c : Point) → dot n (minus b a) ≡ pos 0 → dot n (minus c a) ≡ pos 0
      → dot n n *ℤ twice_area (seen i a) (seen i b) (seen i c) ≡ det n (minus b a) (minus c a) *ℤ shown i n
  in_view a b c eb ec =
      ap (λ (z : ℤ). dot n n *ℤ z) (turn_shown i a b c) ∙ sym (shown_times i (dot n n) (cross (minus b a) (minus c a)))
      ∙ ap (shown i)
      (vring (vec n ∷ vec (minus b a) ∷ vec (minus c a) ∷ []) ((v 0 · v 0) *v (v 1 ×v v 2))
      (dets (v 0) (v 1) (v 2) *v v 0 -v (v 0 ×v (((v 0 · v 2) *v v 1) -v ((v 0 · v 1) *v v 2)))) tt
      ∙ (λ t.
      minus (times (det n (minus b a) (minus c a)) n) (cross n (minus (times (ec t) (minus b a)) (times (eb t) (minus c a)))))
      ∙ vring (vec n ∷ vec (minus b a) ∷ vec (minus c a) ∷ [])
      (dets (v 0) (v 1) (v 2) *v v 0 -v (v 0 ×v ((k (pos 0) *v v 1) -v (k (pos 0) *v v 2)))) (dets (v 0) (v 1) (v 2) *v v 0) tt)
      ∙ shown_times i (det n (minus b a) (minus c a)) n

  module _ (square : Up (dot n n)) where
    hand_view : (h : Hand) (a b c : Point) → dot n (minus b a) ≡ pos 0 → dot n (minus c a) ≡ pos 0
        → dot n n *ℤ handed h (twice_area (seen i a) (seen i b) (seen i c)) ≡ det n (minus b a) (minus c a) *ℤ handed h (shown i n)
    hand_view lefts a b c eb ec = in_view a b c eb ec
    hand_view rights a b c eb ec =
        ring (dot n n ∷ twice_area (seen i a) (seen i b) (seen i c) ∷ []) (var 0 ⊗ neg (var 1)) (neg (var 0 ⊗ var 1)) tt
        ∙ ap neg_ℤ (in_view a b c eb ec)
        ∙ ring (det n (minus b a) (minus c a) ∷ shown i n ∷ []) (neg (var 0 ⊗ var 1)) (var 0 ⊗ neg (var 1)) tt

    -- with the hand on which the plane is seen
    pub left_view : (h : Hand) → Up (handed h (shown i n)) → (a b c : Point) → dot n (minus b a) ≡ pos 0 → dot n (minus c a) ≡ pos 0
        → Up (det n (minus b a) (minus c a)) → Up (handed h (twice_area (seen i a) (seen i b) (seen i c)))
    left_view h u a b c eb ec w = up_out (dot n n) square (up_is (sym (hand_view h a b c eb ec)) (mul-pos w u))

    pub left_back : (h : Hand) → Up (handed h (shown i n)) → (a b c : Point) → dot n (minus b a) ≡ pos 0 → dot n (minus c a) ≡ pos 0
        → Up (handed h (twice_area (seen i a) (seen i b) (seen i c))) → Up (det n (minus b a) (minus c a))
    left_back h u a b c eb ec w =
        up_out (handed h (shown i n)) u
        (up_is (hand_view h a b c eb ec ∙ ring (det n (minus b a) (minus c a) ∷ handed h (shown i n) ∷ []) (var 0 ⊗ var 1)
        (var 1 ⊗ var 0) tt)
        (mul-pos square w))

    pub not_left_view : (h : Hand) → Up (handed h (shown i n)) → (a b c : Point) → dot n (minus b a) ≡ pos 0 → dot n (minus c a) ≡ pos 0
        → Nn (neg_ℤ (det n (minus b a) (minus c a))) → Nn (neg_ℤ (handed h (twice_area (seen i a) (seen i b) (seen i c))))
    not_left_view h u a b c eb ec w =
        nn_out (dot n n) square
        (nn_is (ring (det n (minus b a) (minus c a) ∷ handed h (shown i n) ∷ []) (neg (var 0) ⊗ var 1) (neg (var 0 ⊗ var 1)) tt
        ∙ ap neg_ℤ (sym (hand_view h a b c eb ec))
        ∙ ring (dot n n ∷ handed h (twice_area (seen i a) (seen i b) (seen i c)) ∷ []) (neg (var 0 ⊗ var 1)) (var 0 ⊗ neg (var 1)) tt)
        (mul_nonneg w (up_nn u)))

-- a number that is not 0 is on one hand
pub hand_for : (z : ℤ) → (z ≡ pos 0 → ⊥) → (h : Hand) × Up (handed h z)
hand_for z r = go (ways z)
  where
    go : Up z ⊎ ((z ≡ pos 0) ⊎ Up (neg_ℤ z)) → (h : Hand) × Up (handed h z)
    go (inl u) = (lefts, u)
    go (inr (inl e)) = absurd (r e)
    go (inr (inr u)) = (rights, u)

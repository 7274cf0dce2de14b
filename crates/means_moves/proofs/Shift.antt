-- A shift by w is a move: all tests are of differences.
use mathlib.Core.Path.{◌≡◌, refl, sym, ap, ◌∙◌}
use mathlib.Core.Bool.{◌&&◌, ◌||◌}
use mathlib.Core.List.{List, [], ◌∷◌, map}
use lib.IntN.{ℤ, pos, ◌+ℤ◌, ◌*ℤ◌}
use lib.Signed.{le_z}
use Rattle.exact.proofs.Laws.{one_*ℤ, mul_addℤ}
use Rattle.exact.proofs.Signs.{pos-ne}
use Rattle.exact.proofs.Ring.{var, ◌⊕◌, ◌⊖◌, ◌⊗◌, ring}
use Rattle.lists.specs.Lists.{sides, sides_from, odd_true}
use Rattle.lists.proofs.Sides.{sides_map}
use Rattle.paper.specs.Points.{plus, minus, times, dot, cross, sum, is_zero}
use Rattle.paper.specs.Polygon.{
  Polygon,
  over,
  normal,
  axis,
  seen,
  flat,
  turn,
  spans,
  between,
  touches,
  under,
  meets_ray,
  crosses,
  where_flat,
  lies,
}
use Rattle.paper.specs.declared.Point.{Point}
use Rattle.paper.specs.declared.Flat.{Flat}
use Rattle.paper.specs.declared.Axis.{Axis}
use Rattle.paper.specs.declared.Axis.TheVariants.{AlongX, AlongY, AlongZ}
use Rattle.paper_laws.proofs.Vectors.{num, vec, k as con, x, ◌+s◌, o, v, ◌+v◌, ◌-v◌, ◌*v◌, ◌×v◌, vring}
use Rattle.means_moves.specs.Moves.{Move, shift}
use Rattle.means_moves.proofs.Numbers.{le_shift}
use Rattle.means_moves.proofs.Factors.{one_up}
use Rattle.means_inside.proofs.Place.{where_moved}

-- ---- a polygon's normal

module _ (w : Point) where
  from-shift : (a b : Point) (r : List Point)
      → sum (sides_from (λ y z. cross (shift w y) (shift w z)) a b r) ≡ plus (sum (sides_from cross a b r)) (cross w (minus a b))
  unfolding sum sides_from
  from-shift a b [] =
      vring (vec w ∷ vec a ∷ vec b ∷ []) (((v 2 +v v 0) ×v (v 1 +v v 0)) +v o) (((v 2 ×v v 1) +v o) +v (v 0 ×v (v 1 -v v 2))) tt
  from-shift a b (c ∷ r) =
      ap (plus (cross (shift w b) (shift w c))) (from-shift a c r)
      ∙ vring (vec w ∷ vec a ∷ vec b ∷ vec c ∷ vec (sum (sides_from cross a c r)) ∷ [])
      (((v 2 +v v 0) ×v (v 3 +v v 0)) +v (v 4 +v (v 0 ×v (v 1 -v v 3)))) (((v 2 ×v v 3) +v v 4) +v (v 0 ×v (v 1 -v v 2))) tt

  pub normal-shift : (g : Polygon) → normal (map (shift w) g) ≡ normal g
  unfolding normal sides sum
  normal-shift [] = refl
  normal-shift (a ∷ r) =
      ap sum (sides_map cross (shift w) (a ∷ r)) ∙ from-shift a a r
      ∙ vring (vec w ∷ vec a ∷ vec (sum (sides_from cross a a r)) ∷ []) (v 2 +v (v 0 ×v (v 1 -v v 1))) (v 2) tt

-- ---- in the flat, where t is the shift

module _ (t p : Flat) (d : ℤ) where
  abbrev by : Flat → Flat
  by a = flat (a.u +ℤ t.u) (a.v +ℤ t.v)

  -- p / d
  abbrev far : Flat
  far = flat (p.u +ℤ d *ℤ t.u) (p.v +ℤ d *ℤ t.v)

  turn-shift : (a b : Flat) → turn (by a) (by b) far d ≡ turn a b p d
  unfolding turn
  turn-shift a b =
      ring (t.u ∷ t.v ∷ p.u ∷ p.v ∷ d ∷ a.u ∷ a.v ∷ b.u ∷ b.v ∷ [])
      (((var 7 ⊕ var 0) ⊖ (var 5 ⊕ var 0)) ⊗ ((var 3 ⊕ var 4 ⊗ var 1) ⊖ var 4 ⊗ (var 6 ⊕ var 1))
      ⊖ ((var 8 ⊕ var 1) ⊖ (var 6 ⊕ var 1)) ⊗ ((var 2 ⊕ var 4 ⊗ var 0) ⊖ var 4 ⊗ (var 5 ⊕ var 0)))
      ((var 7 ⊖ var 5) ⊗ (var 3 ⊖ var 4 ⊗ var 6) ⊖ (var 8 ⊖ var 6) ⊗ (var 2 ⊖ var 4 ⊗ var 5)) tt

  le_times : (a b s : ℤ) → le_z (d *ℤ (a +ℤ s)) (b +ℤ d *ℤ s) ≡ le_z (d *ℤ a) b
  le_times a b s = ap (λ (z : ℤ). le_z z (b +ℤ d *ℤ s)) (mul_addℤ d a s) ∙ le_shift (d *ℤ a) b (d *ℤ s)

  ge_times : (a b s : ℤ) → le_z (b +ℤ d *ℤ s) (d *ℤ (a +ℤ s)) ≡ le_z b (d *ℤ a)
  ge_times a b s = ap (le_z (b +ℤ d *ℤ s)) (mul_addℤ d a s) ∙ le_shift b (d *ℤ a) (d *ℤ s)

  spans-shift : (a b q s : ℤ) → spans (d *ℤ (a +ℤ s)) (d *ℤ (b +ℤ s)) (q +ℤ d *ℤ s) ≡ spans (d *ℤ a) (d *ℤ b) q
  unfolding spans
  spans-shift a b q s = λ i. le_times a q s i && ge_times b q s i || le_times b q s i && ge_times a q s i

  touches-shift : (a b : Flat) → touches far d (by a) (by b) ≡ touches p d a b
  unfolding touches between
  touches-shift a b =
      λ i. is_zero (turn-shift a b i) && (spans-shift a.u b.u p.u t.u i && spans-shift a.v b.v p.v t.v i)

  crosses-shift : (a b : Flat) → crosses far d (by a) (by b) ≡ crosses p d a b
  unfolding crosses under
  crosses-shift a b = λ i. meets_ray (le_times a.v p.v t.v i) (le_times b.v p.v t.v i) (turn-shift a b i)

  where_shift : (g : List Flat) → where_flat far d (map by g) ≡ where_flat p d g
  where_shift g =
      where_moved p far d d by touches-shift g
      (λ off. ap odd_true (sides_map (crosses far d) by g) ∙ (λ i. odd_true (sides (λ a b. crosses-shift a b i) g)))

-- ---- in space

seen-shift : (a : Axis) (w p : Point) (d : ℤ) → seen a (plus p (times d w)) ≡ far (seen a w) (seen a p) d
unfolding seen plus times
seen-shift AlongX w p d = refl
seen-shift AlongY w p d = refl
seen-shift AlongZ w p d = refl

seen_all : (a : Axis) (w p : Point) (d : ℤ) (g : Polygon) → map (seen a) (map (shift w) g) ≡ map (by (seen a w) (seen a p) d)
    (map (seen a) g)
unfolding seen plus
seen_all a w p d [] = refl
seen_all a w p d (q ∷ g) = λ i. one a q i ∷ seen_all a w p d g i
  where
    one : (a : Axis) (q : Point) → seen a (shift w q) ≡ by (seen a w) (seen a p) d (seen a q)
    one AlongX q = refl
    one AlongY q = refl
    one AlongZ q = refl

pub lies-shift : (w : Point) (d : ℤ) (p : Point) (g : Polygon) → lies (over (plus p (times d w)) d) (map (shift w) g) ≡ lies (over p d) g
unfolding lies
lies-shift w d p g =
    ap (λ (n : Point). where_flat (seen (axis n) (plus p (times d w))) d (map (seen (axis n)) (map (shift w) g))) (normal-shift w g)
    ∙ (λ i. where_flat (seen-shift (axis (normal g)) w p d i) d (seen_all (axis (normal g)) w p d g i))
    ∙ where_shift (seen (axis (normal g)) w) (seen (axis (normal g)) p) d (map (seen (axis (normal g))) g)

-- ---- all of it

unfoldable pub shifts : Point → Move
shifts w = record {
  to = shift w;
  big = λ d p. plus p (times d w);
  along = λ p. p;
  across = λ p. p;
  dots_by = pos 1;
  crosses_by = pos 1;
  sides_by = pos 1;
  dots_up = one_up;
  crosses_up = one_up;
  sides_real = pos-ne one_up;
  differences = λ p q. vring (vec w ∷ vec p ∷ vec q ∷ []) ((v 1 +v v 0) -v (v 2 +v v 0)) (v 1 -v v 2) tt;
  dots = λ p q. sym (one_*ℤ (dot p q));
  crosses = λ p q. refl;
  cross_dots = λ p q. sym (one_*ℤ (dot p q));
  sides = λ n p. sym (one_*ℤ (dot n p));
  normals = normal-shift w;
  once = λ p. vring (vec w ∷ vec p ∷ []) (v 1 +v v 0) (v 1 +v (con (pos 1) *v v 0)) tt;
  twice = λ p q. vring (vec w ∷ vec p ∷ vec q ∷ []) ((v 1 +v v 0) +v (v 2 +v v 0)) ((v 1 +v v 2) +v (con (pos 2) *v v 0)) tt;
  mixed = λ a b p q. vring (vec w ∷ vec p ∷ vec q ∷ num (pos a) ∷ num (pos b) ∷ [])
      ((x 4 *v (v 1 +v v 0)) +v (x 3 *v (v 2 +v v 0))) (((x 4 *v v 1) +v (x 3 *v v 2)) +v ((x 3 +s x 4) *v v 0)) tt;
  ways = λ d p q. vring (num d ∷ vec w ∷ vec p ∷ vec q ∷ []) ((v 2 +v (x 0 *v v 1)) -v (x 0 *v (v 3 +v v 1))) (v 2 -v (x 0 *v v 3)) tt;
  places = λ d h p g has on. lies-shift w d p g;
}

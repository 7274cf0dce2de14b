-- The mirror x to -x is a move: sides of planes change, and no test does. In the flat the ray is asked the other way.
use mathlib.Core.Path.{◌≡◌, refl, sym, ap, ap₂, ◌∙◌}
use mathlib.Core.Bool.{Bool, ◌&&◌, ◌||◌, cond, xor, or_comm, and_comm}
use mathlib.Core.List.{List, [], ◌∷◌, map, map-id}
use lib.IntN.{ℤ, pos, negsuc, neg_ℤ, ◌+ℤ◌, ◌-ℤ◌, ◌*ℤ◌}
use lib.Signed.{le_z}
use Rattle.exact.proofs.Laws.{one_*ℤ, mul_negℤ}
use Rattle.exact.proofs.Ring.{var, con, ◌⊕◌, ◌⊖◌, ◌⊗◌, neg, ring}
use Rattle.paper.specs.Points.{pt, plus, times, dot, cross, is_zero}
use Rattle.paper.specs.Polygon as Polygon
use Rattle.paper.specs.Polygon.{Polygon, over, normal, axis, seen, flat, spans, between, touches, meets_ray, where_flat, lies}
use Rattle.paper.specs.declared.Point.{Point}
use Rattle.paper.specs.declared.Flat.{Flat}
use Rattle.paper.specs.declared.Axis.{Axis}
use Rattle.paper.specs.declared.Axis.TheVariants.{AlongX, AlongY, AlongZ}
use Rattle.means_area.specs.Flats.{Up, twice_area}
use Rattle.means_inside.specs.Beams.{odd_along, round, beam, right, east, odd}
use Rattle.means_inside.specs.Convex.{rights}
use Rattle.means_inside.specs.Means.{big}
use Rattle.means_inside.proofs.Mirror as Ray
use Rattle.means_inside.proofs.Scale.{odd_is, any-clear}
use Rattle.means_moves.specs.Moves.{mirror, Linear}
use Rattle.means_moves.proofs.Numbers.{le_neg, zero_neg}
use Rattle.means_moves.proofs.Factors.{one_up, minus_one, minus-one_real}
use Rattle.means_inside.proofs.Place.{where_moved}
use Rattle.means_moves.proofs.Corners.{normal_moved, seen_moved}

-- ---- in the flat

abbrev other : Flat → Flat
other a = flat (neg_ℤ a.u) a.v

module _ (p : Flat) (d : ℤ) where
  turn-other : (a b : Flat) → Polygon.turn (other a) (other b) (other p) d ≡ neg_ℤ (Polygon.turn a b p d)
  unfolding Polygon.turn
  turn-other a b =
      ring (p.u ∷ p.v ∷ d ∷ a.u ∷ a.v ∷ b.u ∷ b.v ∷ [])
      ((neg (var 5) ⊖ neg (var 3)) ⊗ (var 1 ⊖ var 2 ⊗ var 4) ⊖ (var 6 ⊖ var 4) ⊗ (neg (var 0) ⊖ var 2 ⊗ neg (var 3)))
      (neg ((var 5 ⊖ var 3) ⊗ (var 1 ⊖ var 2 ⊗ var 4) ⊖ (var 6 ⊖ var 4) ⊗ (var 0 ⊖ var 2 ⊗ var 3))) tt

  spans-neg : (a b q : ℤ) → spans (neg_ℤ a) (neg_ℤ b) (neg_ℤ q) ≡ spans a b q
  unfolding spans
  spans-neg a b q =
      (λ i. le_neg a q i && le_neg q b i || le_neg b q i && le_neg q a i)
      ∙ or_comm (le_z q a && le_z b q) (le_z q b && le_z a q)
      ∙ ap₂ ◌||◌ (and_comm (le_z q b) (le_z a q)) (and_comm (le_z q a) (le_z b q))

  touches-other : (a b : Flat) → touches (other p) d (other a) (other b) ≡ touches p d a b
  unfolding touches between
  touches-other a b =
      ap₂ (λ (s t : Bool). s && (t && spans (d *ℤ a.v) (d *ℤ b.v) p.v))
      (ap is_zero (turn-other a b) ∙ zero_neg (Polygon.turn a b p d))
      ((λ i. spans (mul_negℤ d a.u i) (mul_negℤ d b.u i) (neg_ℤ p.u)) ∙ spans-neg (d *ℤ a.u) (d *ℤ b.u) p.u)

  -- the ray to the one side in the mirror is the ray to the other
  right-other : (a : Flat) → right (other p) (east (other p)) (big d (other a)) ≡ right p (east p) (big d a)
  unfolding right twice_area
  right-other a =
      ap (λ (z : ℤ). le_z z (pos 0))
      (ring (p.u ∷ p.v ∷ d ∷ a.u ∷ a.v ∷ [])
      ((neg (var 0) ⊕ con (pos 1) ⊖ neg (var 0)) ⊗ (var 2 ⊗ var 4 ⊖ var 1) ⊖ (var 1 ⊖ var 1) ⊗ (var 2 ⊗ neg (var 3) ⊖ neg (var 0)))
      ((var 0 ⊕ con (pos 1) ⊖ var 0) ⊗ (var 2 ⊗ var 4 ⊖ var 1) ⊖ (var 1 ⊖ var 1) ⊗ (var 2 ⊗ var 3 ⊖ var 0)) tt)

  turned_other : (a b : Flat) → twice_area (big d (other a)) (big d (other b)) (other p) ≡ neg_ℤ (twice_area (big d a) (big d b) p)
  unfolding twice_area
  turned_other a b =
      ring (p.u ∷ p.v ∷ d ∷ a.u ∷ a.v ∷ b.u ∷ b.v ∷ [])
      ((var 2 ⊗ neg (var 5) ⊖ var 2 ⊗ neg (var 3)) ⊗ (var 1 ⊖ var 2 ⊗ var 4)
      ⊖ (var 2 ⊗ var 6 ⊖ var 2 ⊗ var 4) ⊗ (neg (var 0) ⊖ var 2 ⊗ neg (var 3)))
      (neg ((var 2 ⊗ var 5 ⊖ var 2 ⊗ var 3) ⊗ (var 1 ⊖ var 2 ⊗ var 4) ⊖ (var 2 ⊗ var 6 ⊖ var 2 ⊗ var 4) ⊗ (var 0 ⊖ var 2 ⊗ var 3))) tt

  beam-other : (a b : Flat) → beam (other p) (east (other p)) (big d (other a)) (big d (other b))
      ≡ Ray.mirrored rights p (east p) (big d a) (big d b)
  unfolding beam
  beam-other a b = λ i. meets_ray (right-other a i) (right-other b i) (turned_other a b i)

  walk-other : (x : Flat) (l : List Flat) (e : Flat)
      → odd_along (beam (other p) (east (other p))) (big d (other x)) (map (big d) (map other l)) (big d (other e))
      ≡ odd_along (Ray.mirrored rights p (east p)) (big d x) (map (big d) l) (big d e)
  walk-other x [] e = beam-other x e
  walk-other x (y ∷ l) e = λ i. xor (beam-other x y i) (walk-other y l e i)

  odd-other : (g : List Flat) → odd (other p) (map (big d) (map other g)) ≡ round (Ray.mirrored rights p (east p)) (map (big d) g)
  odd-other [] = refl
  odd-other (x ∷ l) = walk-other x l x

  where_other : Up d → (g : List Flat) → where_flat (other p) d (map other g) ≡ where_flat p d g
  where_other h g =
      where_moved p (other p) d d other touches-other g
      (λ off. odd_is (other p) d h (map other g) ∙ odd-other g ∙ Ray.mirror rights p (east p) (map (big d) g) (any-clear p d h g off)
      ∙ sym (odd_is p d h g))

-- ---- in space

-- what is across two directions turns its other coordinates
abbrev pub back : Point → Point
back p = pt p.x (neg_ℤ p.y) (neg_ℤ p.z)

pub cross-mirror : (p q : Point) → cross (mirror p) (mirror q) ≡ back (cross p q)
unfolding cross
cross-mirror p q =
    let ρ = p.x ∷ p.y ∷ p.z ∷ q.x ∷ q.y ∷ q.z ∷ [] in
    λ i. pt (p.y *ℤ q.z -ℤ p.z *ℤ q.y)
    (ring ρ (var 2 ⊗ neg (var 3) ⊖ neg (var 0) ⊗ var 5) (neg (var 2 ⊗ var 3 ⊖ var 0 ⊗ var 5)) tt i)
    (ring ρ (neg (var 0) ⊗ var 4 ⊖ var 1 ⊗ neg (var 3)) (neg (var 0 ⊗ var 4 ⊖ var 1 ⊗ var 3)) tt i)

pub plus_back : (p q : Point) → plus (back p) (back q) ≡ back (plus p q)
unfolding plus
plus_back p q =
    λ i. pt (p.x +ℤ q.x) (ring (p.y ∷ q.y ∷ []) (neg (var 0) ⊕ neg (var 1)) (neg (var 0 ⊕ var 1)) tt i)
    (ring (p.z ∷ q.z ∷ []) (neg (var 0) ⊕ neg (var 1)) (neg (var 0 ⊕ var 1)) tt i)

normal-mirror : (g : Polygon) → normal (map mirror g) ≡ back (normal g)
normal-mirror = normal_moved mirror back cross-mirror plus_back refl

axis_back : (n : Point) → axis (back n) ≡ axis n
unfolding axis
axis_back n = λ i. cond (is_zero n.x) (cond (zero_neg n.y i) AlongZ AlongY) AlongX

pub lies-mirror : (d : ℤ) → Up d → (p : Point) (g : Polygon) → lies (over (mirror p) d) (map mirror g) ≡ lies (over p d) g
unfolding lies
lies-mirror d h p g =
    ap (λ (a : Axis). where_flat (seen a (mirror p)) d (map (seen a) (map mirror g))) (ap axis (normal-mirror g) ∙ axis_back (normal g))
    ∙ go (axis (normal g))
  where
    go : (a : Axis) → where_flat (seen a (mirror p)) d (map (seen a) (map mirror g)) ≡ where_flat (seen a p) d (map (seen a) g)
    go AlongX = unfold seen in ap (where_flat (seen AlongX p) d) (seen_moved mirror AlongX AlongX (λ a. a) (λ q. refl) g ∙ map-id
        (map (seen AlongX) g))
    go AlongY = unfold seen in
        ap (where_flat (other (seen AlongY p)) d) (seen_moved mirror AlongY AlongY other (λ q. refl) g)
        ∙ where_other (seen AlongY p) d h (map (seen AlongY) g)
    go AlongZ = unfold seen in
        ap (where_flat (other (seen AlongZ p)) d) (seen_moved mirror AlongZ AlongZ other (λ q. refl) g)
        ∙ where_other (seen AlongZ p) d h (map (seen AlongZ) g)

-- ---- all of it

pub plus-mirror : (p q : Point) → plus (mirror p) (mirror q) ≡ mirror (plus p q)
unfolding plus
plus-mirror p q = λ i. pt (ring (p.x ∷ q.x ∷ []) (neg (var 0) ⊕ neg (var 1)) (neg (var 0 ⊕ var 1)) tt i) (p.y +ℤ q.y) (p.z +ℤ q.z)

pub times-mirror : (k : ℤ) (p : Point) → times k (mirror p) ≡ mirror (times k p)
unfolding times
times-mirror k p = λ i. pt (ring (k ∷ p.x ∷ []) (var 0 ⊗ neg (var 1)) (neg (var 0 ⊗ var 1)) tt i) (k *ℤ p.y) (k *ℤ p.z)

pub dot-mirror : (p q : Point) → dot (mirror p) (mirror q) ≡ dot p q
unfolding dot
dot-mirror p q =
    ap (λ (z : ℤ). z +ℤ p.y *ℤ q.y +ℤ p.z *ℤ q.z) (ring (p.x ∷ q.x ∷ []) (neg (var 0) ⊗ neg (var 1)) (var 0 ⊗ var 1) tt)

pub dot_back : (p q : Point) → dot (back p) (back q) ≡ dot p q
unfolding dot
dot_back p q =
    ring (p.x ∷ p.y ∷ p.z ∷ q.x ∷ q.y ∷ q.z ∷ []) (var 0 ⊗ var 3 ⊕ neg (var 1) ⊗ neg (var 4) ⊕ neg (var 2) ⊗ neg (var 5))
    (var 0 ⊗ var 3 ⊕ var 1 ⊗ var 4 ⊕ var 2 ⊗ var 5) tt

pub dot_turns : (n p : Point) → dot (back n) (mirror p) ≡ neg_ℤ (dot n p)
unfolding dot
dot_turns n p =
    ring (n.x ∷ n.y ∷ n.z ∷ p.x ∷ p.y ∷ p.z ∷ []) (var 0 ⊗ neg (var 3) ⊕ neg (var 1) ⊗ var 4 ⊕ neg (var 2) ⊗ var 5)
    (neg (var 0 ⊗ var 3 ⊕ var 1 ⊗ var 4 ⊕ var 2 ⊗ var 5)) tt

unfoldable pub mirrors : Linear
mirrors = record {
  to = mirror;
  across = back;
  dots_by = pos 1;
  crosses_by = pos 1;
  sides_by = negsuc 0;
  dots_up = one_up;
  crosses_up = one_up;
  sides_real = minus-one_real;
  sums = plus-mirror;
  multiples = times-mirror;
  dots = λ p q. dot-mirror p q ∙ sym (one_*ℤ (dot p q));
  crosses = cross-mirror;
  across_sums = plus_back;
  cross_dots = λ p q. dot_back p q ∙ sym (one_*ℤ (dot p q));
  sides = λ n p. dot_turns n p ∙ sym (minus_one (dot n p));
  places = λ d h p g has on. lies-mirror d h p g;
}

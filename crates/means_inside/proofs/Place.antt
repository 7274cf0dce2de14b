-- Where a point lies goes by its place alone: p / d is c p / c d. Every test is of numbers that take a factor above 0.
use mathlib.Core.Path.{◌≡◌, refl, sym, ap, ap₂, ◌∙◌}
use mathlib.Core.Bool.{Bool, true, false, ◌&&◌, ◌||◌}
use mathlib.Core.List.{List, [], ◌∷◌, map, map-id}
use lib.IntN.{ℤ, ◌*ℤ◌}
use lib.Signed.{le_z}
use Rattle.lists.specs.Lists.{sides, any_true, odd_true}
use Rattle.lists.proofs.Sides.{sides_map}
use Rattle.exact.proofs.Laws.{*ℤ-assoc}
use Rattle.exact.proofs.Ring.{var, ◌⊖◌, ◌⊗◌, ring}
use Rattle.paper.specs.Points.{times, is_zero}
use Rattle.paper.specs.Polygon.{Polygon, over, normal, axis, seen, turn, spans, between, touches, under, meets_ray, crosses, placed}
use Rattle.paper.specs.Polygon.{where_flat, lies}
use Rattle.paper.specs.declared.Point.{Point}
use Rattle.paper.specs.declared.Flat.{Flat}
use Rattle.paper.specs.declared.Axis.{Axis}
use Rattle.paper.specs.declared.Axis.TheVariants.{AlongX, AlongY, AlongZ}
use Rattle.paper_laws.proofs.Factors.{up_zero, le_times}
use Rattle.means_area.specs.Flats.{Up}
use Rattle.means_inside.specs.Means.{big}
use Rattle.means_inside.specs.Theorems.{ByPlace}
use Rattle.means_inside.proofs.Scale.{ray_scale}

-- p / d is on the sides on which q / e is; and where it is on none, the rays meet as many up to an even number
pub where_moved : (p q : Flat) (d e : ℤ) (f : Flat → Flat) → ((a b : Flat) → touches q e (f a) (f b) ≡ touches p d a b) → (g : List Flat)
    → (any_true (sides (touches p d) g) ≡ false → odd_true (sides (crosses q e) (map f g)) ≡ odd_true (sides (crosses p d) g))
    → where_flat q e (map f g) ≡ where_flat p d g
unfolding where_flat
where_moved p q d e f h g odds =
    ap (λ (l : List Bool). placed (any_true l) (odd_true (sides (crosses q e) (map f g)))) (sides_map (touches q e) f g)
    ∙ (λ i. placed (any_true (sides (λ a b. h a b i) g)) (odd_true (sides (crosses q e) (map f g))))
    ∙ go (any_true (sides (touches p d) g)) (odd_true (sides (crosses q e) (map f g))) (odd_true (sides (crosses p d) g)) odds
  where
    go : (on r s : Bool) → (on ≡ false → r ≡ s) → placed on r ≡ placed on s
    go true r s same = unfold placed in refl
    go false r s same = ap (placed false) (same refl)

-- corners, d times as large, and p are k times as large, and turns m times
module _ (p : Flat) (d e k m : ℤ) (hk : Up k) (hm : Up m) (f : Flat → Flat) (corners : (a : Flat) → big e (f a) ≡ big k (big d a))
    (turns : (a b : Flat) → turn (f a) (f b) (big k p) e ≡ m *ℤ turn a b p d) where
  spans-times : (a b q : ℤ) → spans (k *ℤ a) (k *ℤ b) (k *ℤ q) ≡ spans a b q
  unfolding spans
  spans-times a b q = λ i. le_times k hk a q i && le_times k hk q b i || le_times k hk b q i && le_times k hk q a i

  touches-times : (a b : Flat) → touches (big k p) e (f a) (f b) ≡ touches p d a b
  unfolding touches between
  touches-times a b =
      (λ i. is_zero (turns a b i)
      && (spans (corners a i).u (corners b i).u (k *ℤ p.u) && spans (corners a i).v (corners b i).v (k *ℤ p.v)))
      ∙ (λ i. up_zero m hm (turn a b p d) i
      && (spans-times (d *ℤ a.u) (d *ℤ b.u) p.u i && spans-times (d *ℤ a.v) (d *ℤ b.v) p.v i))

  under-times : (a : Flat) → under (big k p) e (f a) ≡ under p d a
  unfolding under
  under-times a = ap (λ (b : Flat). le_z b.v (k *ℤ p.v)) (corners a) ∙ le_times k hk (d *ℤ a.v) p.v

  crosses-times : (a b : Flat) → crosses (big k p) e (f a) (f b) ≡ crosses p d a b
  unfolding crosses
  crosses-times a b =
      (λ i. meets_ray (under-times a i) (under-times b i) (turns a b i)) ∙ ray_scale p m hm (under p d a) (under p d b) (turn a b p d)

  pub where_times : (g : List Flat) → where_flat (big k p) e (map f g) ≡ where_flat p d g
  where_times g =
      where_moved p (big k p) d e f touches-times g
      (λ off. ap odd_true (sides_map (crosses (big k p) e) f g) ∙ (λ i. odd_true (sides (λ a b. crosses-times a b i) g)))

-- ---- in space

pub seen-times : (a : Axis) (k : ℤ) (p : Point) → seen a (times k p) ≡ big k (seen a p)
unfolding seen times
seen-times AlongX k p = refl
seen-times AlongY k p = refl
seen-times AlongZ k p = refl

-- p / d is c p / c d
pub lies_over : (c : ℤ) → Up c → (d : ℤ) (p : Point) (g : Polygon) → lies (over (times c p) (c *ℤ d)) g ≡ lies (over p d) g
unfolding lies
lies_over c h d p g = go (axis (normal g))
  where
    corners : (a : Flat) → big (c *ℤ d) a ≡ big c (big d a)
    corners a = λ i. record { u = *ℤ-assoc c d a.u i; v = *ℤ-assoc c d a.v i }

    turns : (p a b : Flat) → turn a b (big c p) (c *ℤ d) ≡ c *ℤ turn a b p d
    turns p a b = unfold turn in
        ring (c ∷ d ∷ p.u ∷ p.v ∷ a.u ∷ a.v ∷ b.u ∷ b.v ∷ [])
        ((var 6 ⊖ var 4) ⊗ (var 0 ⊗ var 3 ⊖ var 0 ⊗ var 1 ⊗ var 5) ⊖ (var 7 ⊖ var 5) ⊗ (var 0 ⊗ var 2 ⊖ var 0 ⊗ var 1 ⊗ var 4))
        (var 0 ⊗ ((var 6 ⊖ var 4) ⊗ (var 3 ⊖ var 1 ⊗ var 5) ⊖ (var 7 ⊖ var 5) ⊗ (var 2 ⊖ var 1 ⊗ var 4))) tt

    go : (a : Axis) → where_flat (seen a (times c p)) (c *ℤ d) (map (seen a) g) ≡ where_flat (seen a p) d (map (seen a) g)
    go a =
        ap₂ (λ (q : Flat) (l : List Flat). where_flat q (c *ℤ d) l) (seen-times a c p) (sym (map-id (map (seen a) g)))
        ∙ where_times (seen a p) d (c *ℤ d) c c h h (λ b. b) corners (turns (seen a p)) (map (seen a) g)

pub by_place : ByPlace
by_place g p q m n um un e =
    sym (lies_over n un m p g)
    ∙ ap₂ (λ (r : Point) (z : ℤ). lies (over r z) g) e (ring (n ∷ m ∷ []) (var 0 ⊗ var 1) (var 1 ⊗ var 0) tt)
    ∙ lies_over m um n q g

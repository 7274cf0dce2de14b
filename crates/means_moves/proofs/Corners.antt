-- A polygon of which every corner is moved: its normal, what is seen of it, and where a point lies.
use mathlib.Core.Path.{◌≡◌, sym, ap, ap₂, ◌∙◌}
use mathlib.Core.Bool.{Bool}
use mathlib.Core.List.{List, [], ◌∷◌, map, map-map}
use Rattle.lists.specs.Lists.{sides, sides_from, odd_true}
use Rattle.lists.proofs.Sides.{sides_map}
use Rattle.paper.specs.Points.{origin, plus, cross, sum}
use Rattle.paper.specs.Polygon.{Polygon, normal, seen}
use Rattle.paper.specs.declared.Point.{Point}
use Rattle.paper.specs.declared.Flat.{Flat}
use Rattle.paper.specs.declared.Axis.{Axis}
use Rattle.means_inside.specs.Beams.{round}
use Rattle.means_inside.proofs.Parity.{odd-round}

-- ---- in space

module _ (e : Point → Point) where
  -- e changes what is across two directions by n
  module _ (n : Point → Point) (crossed : (p q : Point) → cross (e p) (e q) ≡ n (cross p q))
      (sums : (p q : Point) → plus (n p) (n q) ≡ n (plus p q)) (none : n origin ≡ origin) where
    from_moved : (a b : Point) (r : List Point) → sum (sides_from (λ y z. cross (e y) (e z)) a b r) ≡ n (sum (sides_from cross a b r))
    unfolding sides_from sum
    from_moved a b [] = ap₂ plus (crossed b a) (sym none) ∙ sums (cross b a) origin
    from_moved a b (c ∷ r) = ap₂ plus (crossed b c) (from_moved a c r) ∙ sums (cross b c) (sum (sides_from cross a c r))

    pub normal_moved : (g : Polygon) → normal (map e g) ≡ n (normal g)
    unfolding normal sides sum
    normal_moved [] = sym none
    normal_moved (a ∷ r) = ap sum (sides_map cross e (a ∷ r)) ∙ from_moved a a r

  -- what is seen along a of a moved point is what was seen along b, changed by f
  pub seen_moved : (a b : Axis) (f : Flat → Flat) → ((p : Point) → seen a (e p) ≡ f (seen b p)) → (g : Polygon)
      → map (seen a) (map e g) ≡ map f (map (seen b) g)
  seen_moved a b f h g = map-map (seen a) e g ∙ (λ i. map (λ p. h p i) g) ∙ sym (map-map f (seen b) g)

-- ---- in the flat

-- the sides that a test counts, of a ring of which every corner is changed by f
pub round-sides : (t : Flat → Flat → Bool) (f : Flat → Flat) (g : List Flat) → round t (map f g) ≡ odd_true (sides (λ a b. t (f a) (f b)) g)
round-sides t f g = sym (odd-round t (map f g)) ∙ ap odd_true (sides_map t f g)

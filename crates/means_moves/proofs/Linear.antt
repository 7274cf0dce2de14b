-- What takes sums to sums is a move; and so are two moves, one after the other.
use mathlib.Core.Path.{◌≡◌, refl, sym, ap, ap₂, ◌∙◌}
use mathlib.Core.List.{[], ◌∷◌, map-map}
use Prim.Native.Nat.{◌+◌}
use lib.IntN.{ℤ, pos, negsuc, ◌*ℤ◌, *ℤ-zero}
use Rattle.exact.proofs.Laws.{*ℤ-assoc}
use Rattle.exact.proofs.Order.{mul-pos}
use Rattle.exact.proofs.Signs.{mul-zero}
use Rattle.paper.specs.Points.{plus, minus, times, dot}
use Rattle.paper.specs.Polygon.{Polygon, over, normal, corner, lies}
use Rattle.paper.specs.declared.Point.{Point}
use Rattle.paper_laws.proofs.Points.{origin_yes, origin_is}
use Rattle.paper_laws.proofs.Vectors.{vec, k as lit, v, ◌+v◌, ◌-v◌, ◌*v◌, vring}
use Rattle.paper_laws.specs.Planes.{OnPlane}
use Rattle.means_moves.specs.Moves.{HasPlane, Move, Linear}
use Rattle.means_moves.proofs.Corners.{normal_moved}
use Rattle.means_moves.proofs.Tests.{still_by, across-none}
use Rattle.means_moves.proofs.Faces.{moved, one_plane_to}

-- ---- sums to sums

module _ (l : Linear) where
  pub differ : (p q : Point) → minus (l.to p) (l.to q) ≡ l.to (minus p q)
  differ p q =
      vring (vec (l.to p) ∷ vec (l.to q) ∷ []) (v 0 -v v 1) (v 0 +v (lit (negsuc 0) *v v 1)) tt
      ∙ ap (plus (l.to p)) (l.multiples (negsuc 0) q) ∙ l.sums p (times (negsuc 0) q)
      ∙ ap l.to (vring (vec p ∷ vec q ∷ []) (v 0 +v (lit (negsuc 0) *v v 1)) (v 0 -v v 1) tt)

  unfoldable pub linear : Move
  linear = record {
    to = l.to;
    big = λ d p. l.to p;
    along = l.to;
    across = l.across;
    dots_by = l.dots_by;
    crosses_by = l.crosses_by;
    sides_by = l.sides_by;
    dots_up = l.dots_up;
    crosses_up = l.crosses_up;
    sides_real = l.sides_real;
    differences = differ;
    dots = l.dots;
    crosses = l.crosses;
    cross_dots = l.cross_dots;
    sides = l.sides;
    normals = normal_moved l.to l.across l.crosses l.across_sums
        (still_by l.across l.crosses_by l.crosses_up l.cross_dots);
    once = λ p. refl;
    twice = l.sums;
    mixed = λ a b p q. ap₂ plus (l.multiples (pos b) p) (l.multiples (pos a) q) ∙ l.sums (times (pos b) p) (times (pos a) q);
    ways = λ d p q. ap (minus (l.to p)) (l.multiples d q) ∙ differ p (times d q);
    places = l.places;
  }

-- ---- one after the other

-- a polygon has a plane where it was moved to, and a point of the plane is in that one
pub has_moved : (m : Move) (g : Polygon) → HasPlane g → HasPlane (moved m g)
has_moved m g h = record {
  normal_real = λ e. h.normal_real (origin_yes (normal g) (sym (across-none m (normal g)) ∙ origin_is (sym (m.normals g) ∙ e)));
  plane_holds = one_plane_to m g g ∙ h.plane_holds;
}

pub on_moved : (m : Move) (d : ℤ) (p : Point) (g : Polygon) → HasPlane g → OnPlane g p d → OnPlane (moved m g) (m.big d p) d
on_moved m d p [] h on = absurd (h.normal_real (unfold normal in refl))
on_moved m d p (a ∷ r) h on =
    unfold corner in
    ap₂ dot (m.normals (a ∷ r)) (m.ways d p a) ∙ m.sides (normal (a ∷ r)) (minus p (times d a)) ∙ ap (λ (z : ℤ). m.sides_by *ℤ z) on
    ∙ *ℤ-zero m.sides_by

-- first m, then k
module _ (m k : Move) where
  pub product : (f g : Point → Point) (c e : ℤ) → ((p q : Point) → dot (f p) (f q) ≡ c *ℤ dot p q) →
      ((p q : Point) → dot (g p) (g q) ≡ e *ℤ dot p q)
      → (p q : Point) → dot (g (f p)) (g (f q)) ≡ e *ℤ c *ℤ dot p q
  product f g c e hf hg p q = hg (f p) (f q) ∙ ap (λ (z : ℤ). e *ℤ z) (hf p q) ∙ sym (*ℤ-assoc e c (dot p q))

  unfoldable pub both : Move
  both = record {
    to = λ p. k.to (m.to p);
    big = λ d p. k.big d (m.big d p);
    along = λ p. k.along (m.along p);
    across = λ p. k.across (m.across p);
    dots_by = k.dots_by *ℤ m.dots_by;
    crosses_by = k.crosses_by *ℤ m.crosses_by;
    sides_by = k.sides_by *ℤ m.sides_by;
    dots_up = mul-pos k.dots_up m.dots_up;
    crosses_up = mul-pos k.crosses_up m.crosses_up;
    sides_real = λ e. m.sides_real (mul-zero k.sides_by m.sides_by k.sides_real e);
    differences = λ p q. k.differences (m.to p) (m.to q) ∙ ap k.along (m.differences p q);
    dots = product m.along k.along m.dots_by k.dots_by m.dots k.dots;
    crosses = λ p q. k.crosses (m.along p) (m.along q) ∙ ap k.across (m.crosses p q);
    cross_dots = product m.across k.across m.crosses_by k.crosses_by m.cross_dots k.cross_dots;
    sides = λ n p. k.sides (m.across n) (m.along p) ∙ ap (λ (z : ℤ). k.sides_by *ℤ z) (m.sides n p)
        ∙ sym (*ℤ-assoc k.sides_by m.sides_by (dot n p));
    normals = λ g. ap normal (sym (map-map k.to m.to g)) ∙ k.normals (moved m g) ∙ ap k.across (m.normals g);
    once = λ p. k.once (m.to p) ∙ ap (k.big (pos 1)) (m.once p);
    twice = λ p q. k.twice (m.to p) (m.to q) ∙ ap (k.big (pos 2)) (m.twice p q);
    mixed = λ a b p q. k.mixed a b (m.to p) (m.to q) ∙ ap (k.big (pos (a + b))) (m.mixed a b p q);
    ways = λ d p q. k.ways d (m.big d p) (m.to q) ∙ ap k.along (m.ways d p q);
    places = λ d h p g has on. ap (lies (over (k.big d (m.big d p)) d)) (sym (map-map k.to m.to g))
        ∙ k.places d h (m.big d p) (moved m g) (has_moved m g has) (on_moved m d p g has on) ∙ m.places d h p g has on;
  }

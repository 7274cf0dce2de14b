-- Polygons that are one ring: cover, clash and planes are the same.
use mathlib.Core.Path.{◌≡◌, refl, sym, ap, ap₂, ◌∙◌, subst}
use mathlib.Core.Bool.{Bool, not, ◌&&◌, ◌||◌}
use mathlib.Core.List.{List, [], ◌∷◌, ◌++◌, map, map-append, append_assoc, append-nil}
use Prim.Native.Nat.{◌+◌}
use lib.IntN.{pos, neg_ℤ, nat_abs}
use lib.ListN.{take, drop, take-append-drop}
use Rattle.lists.specs.Lists.{any, all, sides, any_true}
use Rattle.lists.proofs.Truth.{and_same}
use Rattle.paper.specs.Points.{plus, times, is_zero, same_point}
use Rattle.paper.specs.Polygon.{Polygon, over, exactly, midpoint, plane_side, one_plane, lies, is_inside, is_outside, covers}
use Rattle.paper.specs.Clash.{opposite, pierced, pierces, enters, is_corner, bends, folds, clash}
use Rattle.paper.specs.Drawing.{Wire, at}
use Rattle.paper.specs.Loops.{Loop, flipped, polygon}
use Rattle.paper.specs.Solids.{face_six}
use Rattle.paper.specs.declared.Point.{Point}
use Rattle.paper_laws.specs.Planes.{InOwnPlane}
use Rattle.paper_laws.proofs.Turned.{middle_turned, pierced_turned}
use Rattle.means_solid.specs.Named.{SameRing}
use Rattle.means_moves.specs.Rings.{turned_on, backward, OneRing}
use Rattle.means_moves.proofs.Factors.{one_up, two_up}
use Rattle.means_moves.proofs.Faces.{opposite_up, all_sides}
use Rattle.means_moves.proofs.Starts.{map_backward, onward-ring, backward-ring, six_onward, six_backward}

-- ---- one of a pair

module _ {g h : Polygon} (r : OneRing g h) where
  zero_ring : (p : Point) → is_zero (plane_side h p) ≡ is_zero (plane_side g p)
  zero_ring p = ap is_zero (r.planes p) ∙ r.side_none (plane_side g p)

  pierced-ring : (p q : Point) → pierced h p q (plane_side h p) (plane_side h q) ≡ pierced g p q (plane_side g p) (plane_side g q)
  unfolding pierced
  pierced-ring p q =
      let A = plane_side g p in
      let B = plane_side g q in
      let a : nat_abs (plane_side h p) ≡ nat_abs A = ap nat_abs (r.planes p) ∙ r.side_size A in
      let b : nat_abs (plane_side h q) ≡ nat_abs B = ap nat_abs (r.planes q) ∙ r.side_size B in
      let e : opposite (plane_side h p) (plane_side h q) ≡ opposite A B = ap₂ opposite (r.planes p) (r.planes q) ∙ r.side_opposite A B in
      (λ i. e i && is_inside (lies (over (plus (times (pos (b i)) p) (times (pos (a i)) q)) (pos (a i + b i))) h))
      ∙ and_same (opposite A B)
      (λ t. ap is_inside (r.places (pos (nat_abs A + nat_abs B)) (opposite_up A B t)
      (plus (times (pos (nat_abs B)) p) (times (pos (nat_abs A)) q))))

  corner-ring : (p : Point) → is_corner h p ≡ is_corner g p
  unfolding is_corner
  corner-ring p = r.some_corner (same_point p)

-- ---- both

module _ {f f' g g' : Polygon} (a : OneRing f f') (b : OneRing g g') where
  pub one_plane_ring : one_plane f' g' ≡ one_plane f g
  unfolding one_plane
  one_plane_ring = b.all_corners (λ p. is_zero (plane_side f' p)) ∙ (λ i. all (λ p. zero_ring a p i) g)

  pub covers-ring : covers f' g' ≡ covers f g
  unfolding covers
  covers-ring =
      ap₂ ◌&&◌ one_plane_ring
      (b.all_sides midpoint (λ m. not (is_outside (lies m f'))) middle_turned
      ∙ all_sides (λ m. not (is_outside (lies m f'))) midpoint g
      ∙ (λ i. all (λ t. t) (sides (λ y z. not (is_outside (middle y z i))) g))
      ∙ sym (all_sides (λ m. not (is_outside (lies m f))) midpoint g))
    where
      middle : (p q : Point) → lies (midpoint p q) f' ≡ lies (midpoint p q) f
      middle p q = unfold midpoint in a.places (pos 2) two_up (plus p q)

  pierces-ring : pierces f' g' ≡ pierces f g
  unfolding pierces
  pierces-ring =
      a.some_side (λ p q. pierced g' p q (plane_side g' p) (plane_side g' q))
      (λ p q. pierced_turned g' p q (plane_side g' p) (plane_side g' q))
      ∙ (λ i. any_true (sides (λ p q. pierced-ring b p q i) f))

  enters-ring : enters f' g' ≡ enters f g
  unfolding enters
  enters-ring =
      a.some_corner (λ p. is_zero (plane_side g' p) && is_inside (lies (exactly p) g'))
      ∙ (λ i. any (λ p. zero_ring b p i && is_inside (b.places (pos 1) one_up p i)) f)

  bends-ring : (u v : Point) → bends f' g' u v ≡ bends f g u v
  unfolding bends
  bends-ring u v = λ i. corner-ring b v i && not (same_point u v) && a.angles u v i && b.angles u v i

  folds-ring : folds f' g' ≡ folds f g
  unfolding folds
  folds-ring =
      ap₂ (λ (s t : Bool). not s && t) one_plane_ring
      (a.some_corner (λ u. is_corner g' u && any (bends f' g' u) f')
      ∙ (λ i. any (λ u. corner-ring b u i && (a.some_corner (bends f' g' u) ∙ (λ j. any (λ v. bends-ring u v j) f)) i) f))

pub clash-ring : {f f' g g' : Polygon} → OneRing f f' → OneRing g g' → clash f' g' ≡ clash f g
unfolding clash
clash-ring a b = λ i. pierces-ring a b i || pierces-ring b a i || (enters-ring a b i || enters-ring b a i) || folds-ring a b i

-- ---- rings of rings

pub ring-same : (g : Polygon) → OneRing g g
ring-same g = record {
  side = λ z. z;
  side_none = λ z. refl;
  side_size = λ z. refl;
  side_opposite = λ a b. refl;
  planes = λ p. refl;
  places = λ d l p. refl;
  some_corner = λ t. refl;
  all_corners = λ t. refl;
  some_side = λ f s. refl;
  all_sides = λ f t s. refl;
  angles = λ u v. refl;
}

pub ring_then : {f g h : Polygon} → OneRing f g → OneRing g h → OneRing f h
ring_then {f} a b = record {
  side = λ z. b.side (a.side z);
  side_none = λ z. b.side_none (a.side z) ∙ a.side_none z;
  side_size = λ z. b.side_size (a.side z) ∙ a.side_size z;
  side_opposite = λ x y. b.side_opposite (a.side x) (a.side y) ∙ a.side_opposite x y;
  planes = λ p. b.planes p ∙ ap b.side (a.planes p);
  places = λ d l p. b.places d l p ∙ a.places d l p;
  some_corner = λ t. b.some_corner t ∙ a.some_corner t;
  all_corners = λ t. b.all_corners t ∙ a.all_corners t;
  some_side = λ q s. b.some_side q s ∙ a.some_side q s;
  all_sides = λ q t s. b.all_sides q t s ∙ a.all_sides q t s;
  angles = λ u v. b.angles u v ∙ a.angles u v;
}

-- the same plane
pub own_plane : {g h : Polygon} → OneRing g h → InOwnPlane g → InOwnPlane h
own_plane r e = one_plane_ring r r ∙ e

-- from any start: the first part behind the second
pub record Start (g h : Polygon) : Type 0 where
  pub ring : OneRing g h
  pub six : face_six h ≡ face_six g

pub any_start : (u w : List Point) → InOwnPlane (u ++ w) → Start (u ++ w) (w ++ u)
unfolding turned_on
any_start [] w e = subst (Start w) (sym (append-nil w)) (record { ring = ring-same w; six = refl })
any_start (x ∷ u) w e =
    let r : OneRing (x ∷ (u ++ w)) ((u ++ w) ++ x ∷ []) = onward-ring (x ∷ (u ++ w)) e in
    let p : (u ++ w) ++ x ∷ [] ≡ u ++ (w ++ x ∷ []) = append_assoc u w (x ∷ []) in
    let q : (w ++ x ∷ []) ++ u ≡ w ++ x ∷ u = append_assoc w (x ∷ []) u in
    let s = any_start u (w ++ x ∷ []) (subst InOwnPlane p (own_plane r e)) in
    record {
      ring = ring_then (subst (OneRing (x ∷ (u ++ w))) p r) (subst (OneRing (u ++ (w ++ x ∷ []))) q s.ring);
      six = ap face_six (sym q) ∙ s.six ∙ ap face_six (sym p) ∙ six_onward (x ∷ (u ++ w)) e;
    }

-- ---- loops of a drawing

module _ (d : Wire) where
  -- "Paths that differ only in start or direction are one loop"
  pub start-ring : {f g : Loop} → SameRing f g → InOwnPlane (polygon d f) → Start (polygon d f) (polygon d g)
  unfolding polygon
  start-ring {f} {g} r e =
      let k = r.at in
      let p : polygon d f ≡ map (at d) (take k f) ++ map (at d) (drop k f) = ap (map (at d)) (sym (take-append-drop k f))
      ∙ map-append (at d) (take k f) (drop k f) in
      let q : polygon d g ≡ map (at d) (drop k f) ++ map (at d) (take k f) = ap (map (at d)) r.turns
      ∙ map-append (at d) (drop k f) (take k f) in
      subst (λ (x : Polygon). Start x (polygon d g)) (sym p)
      (subst (Start (map (at d) (take k f) ++ map (at d) (drop k f))) (sym q)
      (any_start (map (at d) (take k f)) (map (at d) (drop k f)) (subst InOwnPlane p e)))

  flip_is : (f : Loop) → polygon d (flipped f) ≡ backward (polygon d f)
  unfolding polygon flipped backward
  flip_is [] = map_backward (at d) []
  flip_is (x ∷ l) = map_backward (at d) (x ∷ l)

  pub flip-ring : (f : Loop) → OneRing (polygon d f) (polygon d (flipped f))
  flip-ring f = subst (OneRing (polygon d f)) (sym (flip_is f)) (backward-ring (polygon d f))

  pub flip_six : (f : Loop) → face_six (polygon d (flipped f)) ≡ neg_ℤ (face_six (polygon d f))
  flip_six f = ap face_six (flip_is f) ∙ six_backward (polygon d f)

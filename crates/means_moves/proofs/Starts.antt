-- A polygon from its next corner on is one ring with it, and so is a polygon run backwards.
use mathlib.Core.Path.{◌≡◌, refl, sym, ap, ap₂, ◌∙◌}
use mathlib.Core.Bool.{Bool, true, false, ◌&&◌, cond, or_comm, and_comm}
use mathlib.Core.List.{List, [], ◌∷◌, ◌++◌, map, map-append, reverse, reverse-cons}
use lib.IntN.{ℤ, pos, neg_ℤ, ◌+ℤ◌, ◌-ℤ◌}
use Rattle.lists.specs.Lists.{all, sides, sides_from, any_true}
use Rattle.lists.proofs.Sides.{sides_map}
use Rattle.lists.proofs.Truth.{and_left, and_right}
use Rattle.exact.proofs.Size.{abs_neg}
use Rattle.paper.specs.Points.{origin, plus, minus, dot, cross, det, sum, is_zero, above, same_point}
use Rattle.paper.specs.Polygon.{Polygon, over, normal, corner, plane_side, one_plane, axis, seen, where_flat, lies}
use Rattle.paper.specs.Clash.{Side, to, turns_at, angle_holds, in_angle, points_in}
use Rattle.paper.specs.Solids.{face_six}
use Rattle.paper.specs.declared.Point.{Point}
use Rattle.paper.specs.declared.Flat.{Flat}
use Rattle.paper.specs.declared.Axis.{Axis}
use Rattle.paper.specs.declared.Axis.TheVariants.{AlongX, AlongY, AlongZ}
use Rattle.paper_laws.specs.Planes.{InOwnPlane}
use Rattle.paper_laws.proofs.Six.{six_normal}
use Rattle.paper_laws.proofs.Points.{zero_yes}
use Rattle.paper_laws.proofs.Vectors.{num, vec, k as con, x as var, ◌+s◌, ◌-s◌, negs, dets, ◌·◌, o, v as at, ◌+v◌, ◌-v◌, ◌×v◌, vring}
use Rattle.means_area.specs.Flats.{Up}
use Rattle.means_inside.proofs.Inside.{any_start}
use Rattle.means_inside.proofs.Backwards.{any_way}
use Rattle.means_moves.specs.Rings.{turned_on, backward, OneRing}
use Rattle.means_moves.proofs.Numbers.{zero_neg, opposite-neg}
use Rattle.means_moves.proofs.Rings.{
  sides-onward,
  sides-backward,
  reverse_onward,
  gather_onward,
  gather_reverse,
  gather_backward,
  any_true_lem,
  any_of,
  all_of,
  sum_of,
}

-- ---- what is done to each corner

map_onward : {A B : Type 0} (f : A → B) (l : List A) → map f (turned_on l) ≡ turned_on (map f l)
unfolding turned_on
map_onward f [] = refl
map_onward f (x ∷ l) = map-append f l (x ∷ [])

map-reverse : {A B : Type 0} (f : A → B) (l : List A) → map f (reverse l) ≡ reverse (map f l)
unfolding turned_on
map-reverse f [] = refl
map-reverse {A} {B} f (x ∷ l) =
    ap (map f) (reverse-cons x l) ∙ map_onward f (x ∷ reverse l) ∙ ap (λ (r : List B). r ++ f x ∷ []) (map-reverse f l) ∙ sym
    (reverse-cons (f x) (map f l))

pub map_backward : {A B : Type 0} (f : A → B) (l : List A) → map f (backward l) ≡ backward (map f l)
unfolding backward
map_backward f [] = refl
map_backward {A} {B} f (x ∷ l) = ap (λ (r : List B). f x ∷ r) (map-reverse f l)

-- ---- normals

pub normal-onward : (g : Polygon) → normal (turned_on g) ≡ normal g
unfolding normal
normal-onward g = ap sum (sides-onward cross g) ∙ gather_onward sum_of (sides cross g)

pub normal-backward : (g : Polygon) → normal (backward g) ≡ minus origin (normal g)
unfolding normal sides sum
normal-backward g = ap sum (sides-backward cross g) ∙ gather_reverse sum_of (sides (λ y z. cross z y) g) ∙ go g
  where
    from : (a b : Point) (r : List Point) → sum (sides_from (λ y z. cross z y) a b r) ≡ minus origin (sum (sides_from cross a b r))
    from a b [] = unfold sides_from in vring (vec a ∷ vec b ∷ []) ((at 0 ×v at 1) +v o) (o -v ((at 1 ×v at 0) +v o)) tt
    from a b (c ∷ r) =
        unfold sides_from in
        ap (plus (cross c b)) (from a c r)
        ∙ vring (vec b ∷ vec c ∷ vec (sum (sides_from cross a c r)) ∷ []) ((at 1 ×v at 0) +v (o -v at 2)) (o -v ((at 0 ×v at 1) +v at 2)) tt

    go : (g : Polygon) → sum (sides (λ y z. cross z y) g) ≡ minus origin (sum (sides cross g))
    go [] = vring [] o (o -v o) tt
    go (a ∷ r) = from a a r

-- ---- planes

pub planes_onward : (g : Polygon) → InOwnPlane g → (p : Point) → plane_side (turned_on g) p ≡ plane_side g p
unfolding plane_side corner one_plane turned_on all
planes_onward [] h p = refl
planes_onward (a ∷ []) h p = refl
planes_onward (a ∷ (b ∷ r)) h p =
    let n = normal (a ∷ (b ∷ r)) in
    let z : dot n (minus b a) ≡ pos 0 = zero_yes (dot n (minus b a)) (and_left (is_zero (dot n (minus b a))) _
    (and_right (is_zero (dot n (minus a a))) _ h)) in
    ap (λ (m : Point). dot m (minus p b)) (normal-onward (a ∷ (b ∷ r)))
    ∙ vring (vec n ∷ vec p ∷ vec a ∷ vec b ∷ []) (at 0 · (at 1 -v at 3)) ((at 0 · (at 1 -v at 2)) -s (at 0 · (at 3 -v at 2))) tt
    ∙ ap (λ (y : ℤ). dot n (minus p a) -ℤ y) z ∙ vring (num (dot n (minus p a)) ∷ []) (var 0 -s con (pos 0)) (var 0) tt

corner-backward : (g : Polygon) → corner (backward g) ≡ corner g
unfolding corner backward
corner-backward [] = refl
corner-backward (a ∷ r) = refl

pub planes_backward : (g : Polygon) (p : Point) → plane_side (backward g) p ≡ neg_ℤ (plane_side g p)
unfolding plane_side
planes_backward g p =
    ap₂ (λ (n c : Point). dot n (minus p c)) (normal-backward g) (corner-backward g)
    ∙ vring (vec (normal g) ∷ vec p ∷ vec (corner g) ∷ []) ((o -v at 0) · (at 1 -v at 2)) (negs (at 0 · (at 1 -v at 2))) tt

-- ---- places

where_onward : (d : ℤ) → Up d → (p : Flat) (g : List Flat) → where_flat p d (turned_on g) ≡ where_flat p d g
unfolding turned_on
where_onward d h p [] = refl
where_onward d h p (x ∷ []) = refl
where_onward d h p (x ∷ (y ∷ r)) = sym (any_start d h x [] y r p)

where_backward : (d : ℤ) → Up d → (p : Flat) (g : List Flat) → where_flat p d (backward g) ≡ where_flat p d g
where_backward d h p g = sym (where_onward d h p (backward g)) ∙ ap (where_flat p d) (sym (reverse_onward g)) ∙ any_way d h g p

lies-onward : (d : ℤ) → Up d → (p : Point) (g : Polygon) → lies (over p d) (turned_on g) ≡ lies (over p d) g
unfolding lies
lies-onward d h p g =
    ap (λ (n : Point). where_flat (seen (axis n) p) d (map (seen (axis n)) (turned_on g))) (normal-onward g)
    ∙ ap (where_flat (seen (axis (normal g)) p) d) (map_onward (seen (axis (normal g))) g)
    ∙ where_onward d h (seen (axis (normal g)) p) (map (seen (axis (normal g))) g)

axis-neg : (n : Point) → axis (minus origin n) ≡ axis n
unfolding axis minus
axis-neg n = λ i. cond (none n.x i) (cond (none n.y i) AlongZ AlongY) AlongX
  where
    none : (z : ℤ) → is_zero (pos 0 -ℤ z) ≡ is_zero z
    none z = ap is_zero (vring (num z ∷ []) (con (pos 0) -s var 0) (negs (var 0)) tt) ∙ zero_neg z

lies-backward : (d : ℤ) → Up d → (p : Point) (g : Polygon) → lies (over p d) (backward g) ≡ lies (over p d) g
unfolding lies
lies-backward d h p g =
    ap (λ (a : Axis). where_flat (seen a p) d (map (seen a) (backward g))) (ap axis (normal-backward g) ∙ axis-neg (normal g))
    ∙ ap (where_flat (seen (axis (normal g)) p) d) (map_backward (seen (axis (normal g))) g)
    ∙ where_backward d h (seen (axis (normal g)) p) (map (seen (axis (normal g))) g)

-- ---- corner angles

points_onward : (g : Polygon) (u v : Point) → points_in (turned_on g) u v ≡ points_in g u v
unfolding points_in
points_onward g u v =
    ap₂ (λ (n : Point) (s : List Side). any_true (sides (turns_at n u (minus v u)) s)) (normal-onward g) (sides-onward to g)
    ∙ ap any_true (sides-onward (turns_at (normal g) u (minus v u)) (sides to g))
    ∙ gather_onward any_true_lem (sides (turns_at (normal g) u (minus v u)) (sides to g))

-- two tests of successive sides that agree where the sides have their corner in common
module _ (S T : Side → Side → Bool) (same : (a p b : Point) → S (to a p) (to p b) ≡ T (to a p) (to p b)) where
  chain : (a z x y : Point) (r : List Point)
      → sides_from S (to a z) (to x y) (sides_from to a y r) ≡ sides_from T (to a z) (to x y) (sides_from to a y r)
  unfolding sides_from
  chain a z x y [] = λ i. same x y a i ∷ (same y a z i ∷ [])
  chain a z x y (w ∷ r) = λ i. same x y w i ∷ chain a z y w r i

  corners-same : (g : Polygon) → sides S (sides to g) ≡ sides T (sides to g)
  unfolding sides sides_from
  corners-same [] = refl
  corners-same (a ∷ []) = λ i. same a a a i ∷ []
  corners-same (a ∷ (y ∷ r)) = chain a y a y r

swap : Side → Side
swap (to a b) = to b a

sides_swap : (g : Polygon) → sides (λ y z. to z y) g ≡ map swap (sides to g)
unfolding sides sides_from swap
sides_swap [] = refl
sides_swap (a ∷ r) = go a r
  where
    go : (x : Point) (r : List Point) → sides_from (λ y z. to z y) a x r ≡ map swap (sides_from to a x r)
    go x [] = refl
    go x (y ∷ r) = ap (λ (l : List Side). to y x ∷ l) (go y r)

-- an angle from its other side: the normal points the other way, and left and right change places
turn-det : (n p q : Point) → det (minus origin n) p q ≡ det n q p
turn-det n p q = vring (vec n ∷ vec p ∷ vec q ∷ []) (dets (o -v at 0) (at 1) (at 2)) (dets (at 0) (at 2) (at 1)) tt

angle_backward : (n a p b w : Point) → in_angle (minus origin n) b p a w ≡ in_angle n a p b w
unfolding in_angle
angle_backward n a p b w =
    (λ i. angle_holds (above (turn-det n (minus a p) (minus b p) i)) (above (turn-det n (minus a p) w i))
    (above (turn-det n w (minus b p) i)))
    ∙ hold_swap (above (det n (minus b p) (minus a p))) (above (det n w (minus a p))) (above (det n (minus b p) w))
  where
    hold_swap : (x l r : Bool) → angle_holds x l r ≡ angle_holds x r l
    hold_swap true l r = unfold angle_holds in and_comm l r
    hold_swap false l r = unfold angle_holds in or_comm l r

points_backward : (g : Polygon) (u v : Point) → points_in (backward g) u v ≡ points_in g u v
unfolding points_in
points_backward g u v =
    ap₂ (λ (n : Point) (s : List Side). any_true (sides (turns_at n u (minus v u)) s)) (normal-backward g)
    (sides-backward to g ∙ ap reverse (sides_swap g) ∙ reverse_onward (map swap (sides to g)))
    ∙ ap any_true (sides-onward T (backward (map swap (sides to g)))) ∙ gather_onward any_true_lem (sides T (backward (map swap (sides to g))))
    ∙ ap any_true (sides-backward T (map swap (sides to g))) ∙ gather_reverse any_true_lem (sides (λ s t. T t s) (map swap (sides to g)))
    ∙ ap any_true (sides_map (λ s t. T t s) swap (sides to g))
    ∙ ap any_true (corners-same (λ s t. T (swap t) (swap s)) (turns_at (normal g) u (minus v u)) same g)
  where
    T : Side → Side → Bool
    T = turns_at (minus origin (normal g)) u (minus v u)

    same : (a p b : Point) → T (swap (to p b)) (swap (to a p)) ≡ turns_at (normal g) u (minus v u) (to a p) (to p b)
    same a p b = unfold turns_at swap in ap (λ (t : Bool). same_point p u && t) (angle_backward (normal g) a p b (minus v u))

-- ---- all of it

pub onward-ring : (g : Polygon) → InOwnPlane g → OneRing g (turned_on g)
onward-ring g h = record {
  side = λ z. z;
  side_none = λ z. refl;
  side_size = λ z. refl;
  side_opposite = λ a b. refl;
  planes = planes_onward g h;
  places = λ d l p. lies-onward d l p g;
  some_corner = λ t. gather_onward (any_of t) g;
  all_corners = λ t. gather_onward (all_of t) g;
  some_side = λ f s. ap any_true (sides-onward f g) ∙ gather_onward any_true_lem (sides f g);
  all_sides = λ f t s. ap (all t) (sides-onward f g) ∙ gather_onward (all_of t) (sides f g);
  angles = points_onward g;
}

pub backward-ring : (g : Polygon) → OneRing g (backward g)
backward-ring g = record {
  side = neg_ℤ;
  side_none = zero_neg;
  side_size = abs_neg;
  side_opposite = opposite-neg;
  planes = planes_backward g;
  places = λ d l p. lies-backward d l p g;
  some_corner = λ t. gather_backward (any_of t) g;
  all_corners = λ t. gather_backward (all_of t) g;
  some_side = λ f s. ap any_true (sides-backward f g) ∙ gather_reverse any_true_lem (sides (λ y z. f z y) g)
      ∙ (λ i. any_true (sides (λ y z. s z y i) g));
  all_sides = λ f t s. ap (all t) (sides-backward f g) ∙ gather_reverse (all_of t) (sides (λ y z. f z y) g)
      ∙ (λ i. all t (sides (λ y z. s z y i) g));
  angles = points_backward g;
}

-- its part of six volumes
pub six_onward : (g : Polygon) → InOwnPlane g → face_six (turned_on g) ≡ face_six g
unfolding corner turned_on one_plane plane_side all
six_onward [] h = refl
six_onward (a ∷ []) h = refl
six_onward (a ∷ (b ∷ r)) h =
    let n = normal (a ∷ (b ∷ r)) in
    let z : dot n (minus b a) ≡ pos 0 = zero_yes (dot n (minus b a)) (and_left (is_zero (dot n (minus b a))) _
    (and_right (is_zero (dot n (minus a a))) _ h)) in
    six_normal (turned_on (a ∷ (b ∷ r))) ∙ ap (dot b) (normal-onward (a ∷ (b ∷ r)))
    ∙ vring (vec n ∷ vec a ∷ vec b ∷ []) (at 2 · at 0) ((at 1 · at 0) +s (at 0 · (at 2 -v at 1))) tt ∙ ap (λ (y : ℤ). dot a n +ℤ y) z
    ∙ vring (num (dot a n) ∷ []) (var 0 +s con (pos 0)) (var 0) tt ∙ sym (six_normal (a ∷ (b ∷ r)))

pub six_backward : (g : Polygon) → face_six (backward g) ≡ neg_ℤ (face_six g)
six_backward g =
    six_normal (backward g) ∙ ap₂ dot (corner-backward g) (normal-backward g)
    ∙ vring (vec (corner g) ∷ vec (normal g) ∷ []) (at 0 · (o -v at 1)) (negs (at 0 · at 1)) tt ∙ ap neg_ℤ (sym (six_normal g))

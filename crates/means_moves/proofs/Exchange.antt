-- Two coordinates of space exchanged: sides of planes change, and no test does.
-- A polygon is then seen along another axis, or with its two coordinates exchanged; and along every axis the answer is the same.
use mathlib.Core.Path.{◌≡◌, refl, sym, ap, ap₂, ◌∙◌}
use mathlib.Core.Bool.{Bool, true, false}
use mathlib.Core.List.{List, [], ◌∷◌, map, map-id}
use lib.IntN.{ℤ, pos, negsuc, neg_ℤ, ◌-ℤ◌, ◌*ℤ◌}
use Rattle.exact.proofs.Laws.{one_*ℤ}
use Rattle.exact.proofs.Ring.{var, con, ◌⊕◌, ◌⊖◌, ◌⊗◌, ring}
use Rattle.paper.specs.Points.{pt, origin, plus, minus, times, dot, cross}
use Rattle.paper.specs.Polygon.{Polygon, over, normal, axis, seen, where_flat, lies}
use Rattle.paper.specs.declared.Point.{Point}
use Rattle.paper.specs.declared.Flat.{Flat}
use Rattle.paper.specs.declared.Axis.{Axis}
use Rattle.paper.specs.declared.Axis.TheVariants.{AlongX, AlongY, AlongZ}
use Rattle.paper_laws.proofs.Points.{origin_yes, origin_is}
use Rattle.paper_laws.proofs.Vectors.{vec, negs, ◌·◌, o, v, ◌+v◌, ◌-v◌, vring}
use Rattle.means_area.specs.Flats.{Up}
use Rattle.means_area.specs.Space.{through}
use Rattle.means_area.proofs.Space.Views.{axis_real}
use Rattle.means_inside.proofs.Axis.{any_axis}
use Rattle.means_moves.proofs.Factors.{one_up, minus_one, minus-one_real}
use Rattle.means_moves.proofs.Tests.{none_by, still_by}
use Rattle.means_moves.proofs.Corners.{normal_moved, seen_moved}
use Rattle.paper_laws.specs.Planes.{OnPlane}
use Rattle.means_moves.specs.Moves.{Axes, XY, YZ, exchange, HasPlane, Linear}
use Rattle.means_moves.proofs.Swap.{swap, where_swap}

-- what is across two directions
abbrev pub opposed : Axes → Point → Point
opposed e p = minus origin (exchange e p)

-- ---- sums and products

pub plus-exchange : (e : Axes) (p q : Point) → plus (exchange e p) (exchange e q) ≡ exchange e (plus p q)
unfolding plus
plus-exchange XY p q = refl
plus-exchange YZ p q = refl

pub times-exchange : (e : Axes) (k : ℤ) (p : Point) → times k (exchange e p) ≡ exchange e (times k p)
unfolding times
times-exchange XY k p = refl
times-exchange YZ k p = refl

pub dot-exchange : (e : Axes) (p q : Point) → dot (exchange e p) (exchange e q) ≡ dot p q
unfolding dot
dot-exchange XY p q =
    ring (p.x ∷ p.y ∷ p.z ∷ q.x ∷ q.y ∷ q.z ∷ []) (var 1 ⊗ var 4 ⊕ var 0 ⊗ var 3 ⊕ var 2 ⊗ var 5)
    (var 0 ⊗ var 3 ⊕ var 1 ⊗ var 4 ⊕ var 2 ⊗ var 5) tt
dot-exchange YZ p q =
    ring (p.x ∷ p.y ∷ p.z ∷ q.x ∷ q.y ∷ q.z ∷ []) (var 0 ⊗ var 3 ⊕ var 2 ⊗ var 5 ⊕ var 1 ⊗ var 4)
    (var 0 ⊗ var 3 ⊕ var 1 ⊗ var 4 ⊕ var 2 ⊗ var 5) tt

dot_opposed : (e : Axes) (p q : Point) → dot (opposed e p) (opposed e q) ≡ dot p q
dot_opposed e p q =
    vring (vec (exchange e p) ∷ vec (exchange e q) ∷ []) ((o -v v 0) · (o -v v 1)) (v 0 · v 1) tt ∙ dot-exchange e p q

pub dot_turns : (e : Axes) (n p : Point) → dot (opposed e n) (exchange e p) ≡ neg_ℤ (dot n p)
dot_turns e n p =
    vring (vec (exchange e n) ∷ vec (exchange e p) ∷ []) ((o -v v 0) · v 1) (negs (v 0 · v 1)) tt ∙ ap neg_ℤ (dot-exchange e n p)

pub cross-exchange : (e : Axes) (p q : Point) → cross (exchange e p) (exchange e q) ≡ opposed e (cross p q)
unfolding cross minus
cross-exchange e p q = go e
  where
    other : (a b c d : ℤ) → a *ℤ b -ℤ c *ℤ d ≡ pos 0 -ℤ (c *ℤ d -ℤ a *ℤ b)
    other a b c d =
        ring (a ∷ b ∷ c ∷ d ∷ []) (var 0 ⊗ var 1 ⊖ var 2 ⊗ var 3) (con (pos 0) ⊖ (var 2 ⊗ var 3 ⊖ var 0 ⊗ var 1)) tt

    go : (e : Axes) → cross (exchange e p) (exchange e q) ≡ opposed e (cross p q)
    go XY = λ i. pt (other p.x q.z p.z q.x i) (other p.z q.y p.y q.z i) (other p.y q.x p.x q.y i)
    go YZ = λ i. pt (other p.z q.y p.y q.z i) (other p.y q.x p.x q.y i) (other p.x q.z p.z q.x i)

pub opposed_sums : (e : Axes) (p q : Point) → plus (opposed e p) (opposed e q) ≡ opposed e (plus p q)
opposed_sums e p q =
    vring (vec (exchange e p) ∷ vec (exchange e q) ∷ []) ((o -v v 0) +v (o -v v 1)) (o -v (v 0 +v v 1)) tt
    ∙ ap (minus origin) (plus-exchange e p q)

pub opposed_once : (e : Axes) (p q : Point) → dot (opposed e p) (opposed e q) ≡ pos 1 *ℤ dot p q
opposed_once e p q = dot_opposed e p q ∙ sym (one_*ℤ (dot p q))

normal-exchange : (e : Axes) (g : Polygon) → normal (map (exchange e) g) ≡ opposed e (normal g)
normal-exchange e =
    normal_moved (exchange e) (opposed e) (cross-exchange e)
    (opposed_sums e) (still_by (opposed e) (pos 1) one_up (opposed_once e))

-- ---- where a point lies

abbrev shape : Bool → Flat → Flat
shape true a = swap a
shape false a = a

where_shape : (b : Bool) (p : Flat) (d : ℤ) → Up d → (g : List Flat) → where_flat (shape b p) d (map (shape b) g) ≡ where_flat p d g
where_shape true p d h g = where_swap p d h g
where_shape false p d h g = ap (where_flat p d) (map-id g)

-- along a is seen what was seen along another axis, exchanged or not
record View (e : Axes) (a : Axis) : Type 0 where
  from : Axis
  swapped : Bool
  along : (p : Point) → through a (exchange e p) ≡ through from p
  sees : (p : Point) → seen a (exchange e p) ≡ shape swapped (seen from p)

view : (e : Axes) (a : Axis) → View e a
unfolding seen
view XY AlongX = record { from = AlongY; swapped = false; along = λ p. refl; sees = λ p. refl }
view XY AlongY = record { from = AlongX; swapped = false; along = λ p. refl; sees = λ p. refl }
view XY AlongZ = record { from = AlongZ; swapped = true; along = λ p. refl; sees = λ p. refl }
view YZ AlongX = record { from = AlongX; swapped = true; along = λ p. refl; sees = λ p. refl }
view YZ AlongY = record { from = AlongZ; swapped = false; along = λ p. refl; sees = λ p. refl }
view YZ AlongZ = record { from = AlongY; swapped = false; along = λ p. refl; sees = λ p. refl }

pub lies-exchange : (e : Axes) (d : ℤ) → Up d → (p : Point) (g : Polygon) → HasPlane g → OnPlane g p d
    → lies (over (exchange e p) d) (map (exchange e) g) ≡ lies (over p d) g
unfolding lies
lies-exchange e d h p g has on = go (axis (normal (map (exchange e) g))) (axis_real (normal (map (exchange e) g)) turned)
  where
    turned : normal (map (exchange e) g) ≡ origin → ⊥
    turned q =
        has.normal_real
        (origin_yes (normal g)
        (sym (none_by (opposed e) (pos 1) one_up (opposed_once e) (normal g)) ∙ origin_is (sym (normal-exchange e g) ∙ q)))

    through-minus : (a : Axis) (q : Point) → through a (minus origin q) ≡ pos 0 -ℤ through a q
    through-minus AlongX q = unfold minus in refl
    through-minus AlongY q = unfold minus in refl
    through-minus AlongZ q = unfold minus in refl

    go : (a : Axis) → (through a (normal (map (exchange e) g)) ≡ pos 0 → ⊥)
        → where_flat (seen a (exchange e p)) d (map (seen a) (map (exchange e) g)) ≡ lies (over p d) g
    go a off =
        let s = view e a in
        let f = shape s.swapped in
        ap₂ (λ (q : Flat) (l : List Flat). where_flat q d l) (s.sees p) (seen_moved (exchange e) a s.from f s.sees g)
        ∙ where_shape s.swapped (seen s.from p) d h (map (seen s.from) g)
        ∙ sym (any_axis g has.plane_holds s.from
        (λ z. off (ap (through a) (normal-exchange e g) ∙ through-minus a (exchange e (normal g))
        ∙ ap (λ (y : ℤ). pos 0 -ℤ y) (s.along (normal g) ∙ z))) d h p on)

unfoldable pub exchanges : Axes → Linear
exchanges e = record {
  to = exchange e;
  across = opposed e;
  dots_by = pos 1;
  crosses_by = pos 1;
  sides_by = negsuc 0;
  dots_up = one_up;
  crosses_up = one_up;
  sides_real = minus-one_real;
  sums = plus-exchange e;
  multiples = times-exchange e;
  dots = λ p q. dot-exchange e p q ∙ sym (one_*ℤ (dot p q));
  crosses = cross-exchange e;
  across_sums = opposed_sums e;
  cross_dots = opposed_once e;
  sides = λ n p. dot_turns e n p ∙ sym (minus_one (dot n p));
  places = lies-exchange e;
}

-- Planes, cover and clash of polygons that were moved.
use mathlib.Core.Path.{◌≡◌, refl, sym, ap, ap₂, ◌∙◌, subst}
use mathlib.Core.Bool.{Bool, true, false, not, ◌&&◌, ◌||◌, true≢false, and-false}
use mathlib.Core.List.{List, [], ◌∷◌, map}
use Prim.Native.Nat.{ℕ, zero, suc, ◌+◌, ◌*◌}
use native.Mathlib.Omega.{arith}
use borrow.Author.Tests.{le-ltb}
use lib.IntN.{ℤ, pos, negsuc, nat_abs, ◌+ℤ◌, ◌*ℤ◌, *ℤ-zero}
use Rattle.exact.proofs.Size.{abs_mul}
use Rattle.exact.proofs.Ring.{var, con, ◌⊕◌, ◌⊗◌, neg, ring}
use Rattle.lists.specs.Lists.{any, all, sides, sides_from, any_true}
use Rattle.lists.proofs.Sides.{sides_map}
use Rattle.lists.proofs.Truth.{and_left, and_right, and_same}
use Rattle.paper.specs.Points.{plus, minus, times, dot, is_zero, above, below, same_point}
use Rattle.paper.specs.Polygon.{Polygon, Ratio, over, exactly, midpoint, normal, corner, plane_side, one_plane, lies, is_inside, is_outside, covers}
use Rattle.paper.specs.Clash.{opposite, pierced, pierces, enters, Side, to, turns_at, points_in, is_corner, bends, folds, clash}
use Rattle.paper.specs.declared.Point.{Point}
use Rattle.paper.specs.declared.Where.{Where}
use Rattle.paper_laws.proofs.Points.{zero_yes, empty_side}
use Rattle.paper_laws.proofs.Vectors.{num, vec, k as lit, x as fac, ◌+s◌, ◌*s◌, ◌·◌, v as at, ◌+v◌, ◌-v◌, ◌*v◌, vring}
use Rattle.means_area.specs.Flats.{Up}
use Rattle.paper_laws.specs.Planes.{OnPlane}
use Rattle.means_moves.specs.Moves.{HasPlane, Move}
use Rattle.exact.proofs.Order.{whole_pos}
use Rattle.paper_laws.proofs.Factors.{zero_times}
use Rattle.means_moves.proofs.Factors.{one_up, two_up, opposite-times}
use Rattle.means_inside.proofs.Place.{lies_over}
use Rattle.means_moves.proofs.Tests.{side_to, same-to, angle_to}

-- ---- lists of what was moved

pub any_map : {A B : Type 0} (p : B → Bool) (f : A → B) (xs : List A) → any p (map f xs) ≡ any (λ x. p (f x)) xs
unfolding any
any_map p f [] = refl
any_map p f (x ∷ xs) = ap (λ (r : Bool). p (f x) || r) (any_map p f xs)

pub all_map : {A B : Type 0} (p : B → Bool) (f : A → B) (xs : List A) → all p (map f xs) ≡ all (λ x. p (f x)) xs
unfolding all
all_map p f [] = refl
all_map p f (x ∷ xs) = ap (λ (r : Bool). p (f x) && r) (all_map p f xs)

pub map_sides : {A B C : Type 0} (h : B → C) (f : A → A → B) (g : List A) → map h (sides f g) ≡ sides (λ y z. h (f y z)) g
unfolding sides sides_from
map_sides h f [] = refl
map_sides {A} {B} {C} h f (a ∷ r) = go a r
  where
    go : (x : A) (r : List A) → map h (sides_from f a x r) ≡ sides_from (λ y z. h (f y z)) a x r
    go x [] = refl
    go x (y ∷ r) = ap (λ (l : List C). h (f x y) ∷ l) (go y r)

none : (b : ℤ) → opposite (pos 0) b ≡ false
unfolding opposite below above
none b = refl

-- ends on opposite sides are not both in the plane
pub opposite_up : (a b : ℤ) → opposite a b ≡ true → Up (pos (nat_abs a + nat_abs b))
opposite_up (pos zero) b e = absurd (true≢false (sym e ∙ none b))
opposite_up (pos (suc n)) b e = whole_pos (suc n + nat_abs b) (omega arith)
opposite_up (negsuc n) b e = whole_pos (suc n + nat_abs b) (omega arith)

-- the size of what is not 0
pub real_up : (z : ℤ) → (z ≡ pos 0 → ⊥) → Up (pos (nat_abs z))
real_up (pos zero) h = absurd (h refl)
real_up (pos (suc n)) h = whole_pos (suc n) (omega arith)
real_up (negsuc n) h = whole_pos (suc n) (omega arith)

-- a test of all sides, as a list of answers
pub all_sides : (t : Ratio → Bool) (f : Point → Point → Ratio) (h : Polygon) → all t (sides f h) ≡ all (λ b. b) (sides (λ y z. t (f y z)) h)
all_sides t f h = sym (all_map (λ b. b) t (sides f h)) ∙ ap (all (λ b. b)) (map_sides t f h)

-- sides between corners that pass a test
sides_if : {A B : Type 0} (t : A → Bool) (f f' : A → A → B) → ((y z : A) → t y ≡ true → t z ≡ true → f' y z ≡ f y z)
    → (h : List A) → all t h ≡ true → sides f' h ≡ sides f h
unfolding sides sides_from all
sides_if t f f' k [] e = refl
sides_if {A} t f f' k (a ∷ r) e = go a r (and_left (t a) (all t r) e) (and_right (t a) (all t r) e)
  where
    go : (x : A) (r : List A) → t x ≡ true → all t r ≡ true → sides_from f' a x r ≡ sides_from f a x r
    go x [] p q = λ i. k x a p (and_left (t a) _ e) i ∷ []
    go x (y ∷ r) p q = λ i. k x y p (and_left (t y) (all t r) q) i ∷ go y r (and_left (t y) (all t r) q) (and_right (t y) (all t r) q) i

-- ---- points of a plane: a corner, a midpoint, a piercing point

here_on : (g : Polygon) (p : Point) → plane_side g p ≡ pos 0 → OnPlane g p (pos 1)
unfolding plane_side
here_on g p e =
    vring (vec (normal g) ∷ vec p ∷ vec (corner g) ∷ []) (at 0 · (at 1 -v (lit (pos 1) *v at 2))) (at 0 · (at 1 -v at 2)) tt ∙ e

half_on : (g : Polygon) (p q : Point) → plane_side g p ≡ pos 0 → plane_side g q ≡ pos 0 → OnPlane g (plus p q) (pos 2)
unfolding plane_side
half_on g p q e f =
    vring (vec (normal g) ∷ vec p ∷ vec q ∷ vec (corner g) ∷ []) (at 0 · ((at 1 +v at 2) -v (lit (pos 2) *v at 3)))
    ((at 0 · (at 1 -v at 3)) +s (at 0 · (at 2 -v at 3))) tt
    ∙ ap₂ ◌+ℤ◌ e f

-- as far to the one side as to the other
balance : (a b : ℤ) → opposite a b ≡ true → pos (nat_abs b) *ℤ a +ℤ pos (nat_abs a) *ℤ b ≡ pos 0
unfolding opposite below above
balance (pos m) (pos n) e = absurd (true≢false (sym e ∙ sides_no))
  where
    sides_no : opposite (pos m) (pos n) ≡ false
    sides_no =
        unfold opposite below in
        ap₂ (λ (a b : Bool). a && above (pos n) || above (pos m) && b) (le-ltb m 0 (omega arith)) (le-ltb n 0 (omega arith)) ∙ and-false (above (pos m))
balance (pos m) (negsuc n) e = ring (pos m ∷ pos (suc n) ∷ []) (var 1 ⊗ var 0 ⊕ var 0 ⊗ neg (var 1)) (con (pos 0)) tt
balance (negsuc m) (pos n) e = ring (pos (suc m) ∷ pos n ∷ []) (var 1 ⊗ neg (var 0) ⊕ var 0 ⊗ var 1) (con (pos 0)) tt
balance (negsuc m) (negsuc n) e = absurd (true≢false (sym e))

pub pierced_on : (g : Polygon) (p q : Point) → opposite (plane_side g p) (plane_side g q) ≡ true
    → OnPlane g (plus (times (pos (nat_abs (plane_side g q))) p) (times (pos (nat_abs (plane_side g p))) q))
    (pos (nat_abs (plane_side g p) + nat_abs (plane_side g q)))
unfolding plane_side
pierced_on g p q e =
    let a = dot (normal g) (minus p (corner g)) in
    let b = dot (normal g) (minus q (corner g)) in
    vring (vec (normal g) ∷ vec p ∷ vec q ∷ vec (corner g) ∷ num (pos (nat_abs a)) ∷ num (pos (nat_abs b)) ∷ [])
    (at 0 · (((fac 5 *v at 1) +v (fac 4 *v at 2)) -v ((fac 4 +s fac 5) *v at 3)))
    ((fac 5 *s (at 0 · (at 1 -v at 3))) +s (fac 4 *s (at 0 · (at 2 -v at 3)))) tt
    ∙ balance a b e

module _ (m : Move) where
  -- a polygon, moved
  abbrev pub moved : Polygon → Polygon
  moved g = map m.to g

  -- ---- planes

  plane_to : (g : Polygon) (p : Point) → plane_side (moved g) (m.to p) ≡ m.sides_by *ℤ plane_side g p
  plane_to [] p = empty_side (m.to p) ∙ sym (ap (λ (z : ℤ). m.sides_by *ℤ z) (empty_side p) ∙ *ℤ-zero m.sides_by)
  plane_to (a ∷ r) p =
      unfold plane_side corner in
      ap (λ (n : Point). dot n (minus (m.to p) (m.to a))) (m.normals (a ∷ r)) ∙ side_to m (normal (a ∷ r)) p a

  pub zero_to : (g : Polygon) (p : Point) → is_zero (plane_side (moved g) (m.to p)) ≡ is_zero (plane_side g p)
  zero_to g p = ap is_zero (plane_to g p) ∙ zero_times m.sides_by m.sides_real (plane_side g p)

  pub one_plane_to : (g h : Polygon) → one_plane (moved g) (moved h) ≡ one_plane g h
  unfolding one_plane
  one_plane_to g h = all_map (λ p. is_zero (plane_side (moved g) p)) m.to h ∙ (λ i. all (λ p. zero_to g p i) h)

  module _ (g : Polygon) (has : HasPlane g) where
    -- ---- cover

    middle_to : (p q : Point) → is_zero (plane_side g p) ≡ true → is_zero (plane_side g q) ≡ true
        → lies (midpoint (m.to p) (m.to q)) (moved g) ≡ lies (midpoint p q) g
    unfolding midpoint
    middle_to p q a b =
        ap (λ (r : Point). lies (over r (pos 2)) (moved g)) (m.twice p q)
        ∙ m.places (pos 2) two_up (plus p q) g has (half_on g p q (zero_yes (plane_side g p) a) (zero_yes (plane_side g q) b))

    within_to : (h : Polygon) → all (λ p. is_zero (plane_side g p)) h ≡ true
        → all (λ r. not (is_outside (lies r (moved g)))) (sides midpoint (moved h)) ≡ all (λ r. not (is_outside (lies r g)))
        (sides midpoint h)
    within_to h e =
        ap (all (λ r. not (is_outside (lies r (moved g))))) (sides_map midpoint m.to h)
        ∙ all_sides (λ r. not (is_outside (lies r (moved g)))) (λ y z. midpoint (m.to y) (m.to z)) h
        ∙ ap (all (λ b. b))
        (sides_if (λ p. is_zero (plane_side g p)) (λ y z. not (is_outside (lies (midpoint y z) g)))
        (λ y z. not (is_outside (lies (midpoint (m.to y) (m.to z)) (moved g))))
        (λ y z a b. ap (λ (x : Where). not (is_outside x)) (middle_to y z a b)) h e)
        ∙ sym (all_sides (λ r. not (is_outside (lies r g))) midpoint h)

    pub covers-to : (h : Polygon) → covers (moved g) (moved h) ≡ covers g h
    unfolding covers one_plane
    covers-to h =
        ap (λ (b : Bool). b && all (λ r. not (is_outside (lies r (moved g)))) (sides midpoint (moved h))) (one_plane_to g h)
        ∙ and_same (one_plane g h) (within_to h)

    -- ---- A

    between-to : (p q : Point) → opposite (plane_side g p) (plane_side g q) ≡ true → (a b a' b' : ℕ)
        → a ≡ nat_abs (plane_side g p) → b ≡ nat_abs (plane_side g q) → a' ≡ nat_abs m.sides_by * a → b' ≡ nat_abs m.sides_by * b
        → lies (over (plus (times (pos b') (m.to p)) (times (pos a') (m.to q))) (pos (a' + b'))) (moved g)
        ≡ lies (over (plus (times (pos b) p) (times (pos a) q)) (pos (a + b))) g
    between-to p q e a b a' b' ea eb ea' eb' =
        (λ i. lies (over (plus (times (pos (eb' i)) (m.to p)) (times (pos (ea' i)) (m.to q))) (pos (ea' i + eb' i))) (moved g))
        ∙ ap₂ (λ (r : Point) (z : ℤ). lies (over r z) (moved g))
        (vring (vec (m.to p) ∷ vec (m.to q) ∷ num (pos s) ∷ num (pos a) ∷ num (pos b) ∷ [])
        (((fac 2 *s fac 4) *v at 0) +v ((fac 2 *s fac 3) *v at 1)) (fac 2 *v ((fac 4 *v at 0) +v (fac 3 *v at 1))) tt)
        (ring (pos s ∷ pos a ∷ pos b ∷ []) (var 0 ⊗ var 1 ⊕ var 0 ⊗ var 2) (var 0 ⊗ (var 1 ⊕ var 2)) tt)
        ∙ lies_over (pos s) (real_up m.sides_by m.sides_real) (pos (a + b))
        (plus (times (pos b) (m.to p)) (times (pos a) (m.to q))) (moved g)
        ∙ ap (λ (r : Point). lies (over r (pos (a + b))) (moved g)) (m.mixed a b p q)
        ∙ m.places (pos (a + b)) up (plus (times (pos b) p) (times (pos a) q)) g has on
      where
        s : ℕ
        s = nat_abs m.sides_by

        up : Up (pos (a + b))
        up = subst (λ (n : ℕ). Up (pos n)) (sym (ap₂ ◌+◌ ea eb)) (opposite_up (plane_side g p) (plane_side g q) e)

        on : OnPlane g (plus (times (pos b) p) (times (pos a) q)) (pos (a + b))
        on = (λ i. dot (normal g) (minus (plus (times (pos (eb i)) p) (times (pos (ea i)) q)) (times (pos (ea i + eb i)) (corner g)))) ∙
            pierced_on g p q e

    pierced-to : (p q : Point)
        → pierced (moved g) (m.to p) (m.to q) (plane_side (moved g) (m.to p)) (plane_side (moved g) (m.to q))
        ≡ pierced g p q (plane_side g p) (plane_side g q)
    unfolding pierced
    pierced-to p q =
        ap (λ (b : Bool). b && is_inside (lies (over (plus (times (pos (nat_abs (plane_side (moved g) (m.to q)))) (m.to p))
        (times (pos (nat_abs (plane_side (moved g) (m.to p)))) (m.to q)))
        (pos (nat_abs (plane_side (moved g) (m.to p)) + nat_abs (plane_side (moved g) (m.to q))))) (moved g)))
        (ap₂ opposite (plane_to g p) (plane_to g q) ∙ opposite-times m.sides_by m.sides_real (plane_side g p) (plane_side g q))
        ∙ and_same (opposite (plane_side g p) (plane_side g q))
        (λ e. ap is_inside (between-to p q e (nat_abs (plane_side g p)) (nat_abs (plane_side g q)) (nat_abs (plane_side (moved g) (m.to p)))
        (nat_abs (plane_side (moved g) (m.to q))) refl refl (size p) (size q)))
      where
        size : (p : Point) → nat_abs (plane_side (moved g) (m.to p)) ≡ nat_abs m.sides_by * nat_abs (plane_side g p)
        size p = ap nat_abs (plane_to g p) ∙ abs_mul m.sides_by (plane_side g p)

    pub pierces-to : (f : Polygon) → pierces (moved f) (moved g) ≡ pierces f g
    unfolding pierces
    pierces-to f =
        ap any_true (sides_map (λ p q. pierced (moved g) p q (plane_side (moved g) p) (plane_side (moved g) q)) m.to f)
        ∙ (λ i. any_true (sides (λ p q. pierced-to p q i) f))

    -- ---- B

    enters-at : (p : Point) → (is_zero (plane_side (moved g) (m.to p)) && is_inside (lies (exactly (m.to p)) (moved g)))
        ≡ (is_zero (plane_side g p) && is_inside (lies (exactly p) g))
    enters-at p =
        ap (λ (b : Bool). b && is_inside (lies (exactly (m.to p)) (moved g))) (zero_to g p)
        ∙ and_same (is_zero (plane_side g p)) (λ e. ap is_inside (ap (λ (r : Point). lies (over r (pos 1)) (moved g)) (m.once p)
        ∙ m.places (pos 1) one_up p g has (here_on g p (zero_yes (plane_side g p) e))))

    pub enters-to : (f : Polygon) → enters (moved f) (moved g) ≡ enters f g
    unfolding enters
    enters-to f =
        any_map (λ p. is_zero (plane_side (moved g) p) && is_inside (lies (exactly p) (moved g))) m.to f
        ∙ (λ i. any (λ p. enters-at p i) f)

  -- ---- C

  side_of : Side → Side
  side_of (to p q) = to (m.to p) (m.to q)

  turns_to : (n u w : Point) (s t : Side) → turns_at (m.across n) (m.to u) (m.along w) (side_of s) (side_of t) ≡ turns_at n u w s t
  unfolding turns_at side_of
  turns_to n u w (to a p) (to q b) = ap₂ ◌&&◌ (same-to m p u) (angle_to m n a p b w)

  pub points_to : (g : Polygon) (u v : Point) → points_in (moved g) (m.to u) (m.to v) ≡ points_in g u v
  unfolding points_in side_of
  points_to g u v =
      ap₂ (λ (n w : Point). any_true (sides (turns_at n (m.to u) w) (sides to (moved g)))) (m.normals g) (m.differences v u)
      ∙ ap (λ (l : List Side). any_true (sides (turns_at (m.across (normal g)) (m.to u) (m.along (minus v u))) l))
      (sides_map to m.to g ∙ sym (map_sides side_of to g))
      ∙ ap any_true (sides_map (turns_at (m.across (normal g)) (m.to u) (m.along (minus v u))) side_of (sides to g))
      ∙ (λ i. any_true (sides (λ s t. turns_to (normal g) u (minus v u) s t i) (sides to g)))

  pub corner-to : (g : Polygon) (p : Point) → is_corner (moved g) (m.to p) ≡ is_corner g p
  unfolding is_corner
  corner-to g p = any_map (same_point (m.to p)) m.to g ∙ (λ i. any (λ q. same-to m p q i) g)

  bends-to : (f g : Polygon) (u v : Point) → bends (moved f) (moved g) (m.to u) (m.to v) ≡ bends f g u v
  unfolding bends
  bends-to f g u v = λ i. corner-to g v i && not (same-to m u v i) && points_to f u v i && points_to g u v i

  pub folds-to : (f g : Polygon) → folds (moved f) (moved g) ≡ folds f g
  unfolding folds
  folds-to f g =
      ap₂ (λ (a b : Bool). not a && b) (one_plane_to f g)
      (any_map (λ u. is_corner (moved g) u && any (bends (moved f) (moved g) u) (moved f)) m.to f ∙ (λ i. any (λ u. each u i) f))
    where
      each : (u : Point) → (is_corner (moved g) (m.to u) && any (bends (moved f) (moved g) (m.to u)) (moved f))
          ≡ (is_corner g u && any (bends f g u) f)
      each u =
          ap₂ ◌&&◌ (corner-to g u) (any_map (bends (moved f) (moved g) (m.to u)) m.to f ∙ (λ i. any (λ v. bends-to f g u v i) f))

  -- ---- "if, either way round"

  pub clash-to : (f g : Polygon) → HasPlane f → HasPlane g → clash (moved f) (moved g) ≡ clash f g
  unfolding clash
  clash-to f g kf kg = λ i. pierces-to g kg f i || pierces-to f kf g i || (enters-to g kg f i || enters-to f kf g i) || folds-to f g i

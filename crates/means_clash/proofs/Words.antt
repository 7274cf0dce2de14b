-- The test of a clash is true just where A, B or C holds.
use mathlib.Core.Path.{◌≡◌, refl, sym, ap, subst, ◌∙◌}
use mathlib.Core.Bool.{Bool, true, false, not, ◌&&◌, ◌||◌}
use mathlib.Core.Logic.{◌⊎◌, inl, inr}
use Prim.Native.Nat.{ℕ, ◌+◌, ◌≤◌, ◌<◌}
use native.Mathlib.Omega.{arith}
use lib.IntN.{ℤ, pos}
use lib.Signed.{◌<ℤ◌}
use lib.ListN.{length, get_or}
use Rattle.lists.specs.Around.{around}
use Rattle.lists.specs.Lists.{any, sides}
use Rattle.lists.proofs.Passing.{any_yes, any_is, all_yes, all_is}
use Rattle.lists.proofs.Sides.{sides_length, sides-around}
use Rattle.paper.specs.Points.{origin, minus, det, same_point, is_zero, above, below}
use Rattle.paper.specs.Drawing.{Wire}
use Rattle.paper.specs.Loops.{Loop, polygon}
use Rattle.paper.specs.Polygon.{Polygon, exactly, normal, plane_side, one_plane, lies, is_inside}
use Rattle.paper.specs.Clash.{opposite, pierced, pierces, enters, angle_holds, in_angle, Side, to, turns_at, points_in, is_corner, bends, folds}
use Rattle.paper.specs.Clash.{clash}
use Rattle.paper.specs.declared.Point.{Point}
use Rattle.paper.specs.declared.Where.{Where}
use Rattle.paper.specs.declared.Where.TheVariants.{Outside, Border, Inside}
use Rattle.paper_laws.proofs.Wires.{polygon_length}
use Rattle.paper_laws.proofs.Points.{same_yes, same_is}
use Rattle.means_clash.proofs.Either.{corner_yes, yes_corner}
use Rattle.means_clash.specs.Clash.{corner_at, Corner, Opposite, piercing, EdgePierces, RuleA, RuleB, InAngle, PointsIn, RuleC, ClashOf}
use Rattle.paper_laws.proofs.Tests.{Is, is_lt_z, is_not, is_or, is_and, is_to, is_zero_lem, is_side}

-- ---- signs, points, places

pub is_above : (z : ℤ) → Is (above z) (pos 0 <ℤ z)
unfolding above
is_above z = is_lt_z (pos 0) z

pub is_below : (z : ℤ) → Is (below z) (z <ℤ pos 0)
unfolding below
is_below z = is_lt_z z (pos 0)

is_same : (p q : Point) → Is (same_point p q) (p ≡ q)
is_same p q = (same_yes p q, same_is p q)

pub is_inside_lem : (w : Where) → Is (is_inside w) (w ≡ Inside)
unfolding is_inside
is_inside_lem Outside = (λ e. let z : ◌≡◌ {A = ℕ} 0 1 = cc in absurd (omega arith), λ e. let z : ◌≡◌ {A = ℕ} 0 1 = cc in absurd (omega arith))
is_inside_lem Border = (λ e. let z : ◌≡◌ {A = ℕ} 0 1 = cc in absurd (omega arith), λ e. let z : ◌≡◌ {A = ℕ} 0 1 = cc in absurd (omega arith))
is_inside_lem Inside = (λ e. refl, λ e. refl)

-- ---- A

pub is_opposite : (a b : ℤ) → Is (opposite a b) (Opposite a b)
unfolding opposite
is_opposite a b =
    is_or (below a && above b) (above a && below b) (is_and (below a) (above b) (is_below a) (is_above b))
    (is_and (above a) (below b) (is_above a) (is_below b))

is_pierced : (g : Polygon) (p q : Point) → Is (pierced g p q (plane_side g p) (plane_side g q)) (EdgePierces g p q)
unfolding pierced
is_pierced g p q =
    let w = lies (piercing p q (plane_side g p) (plane_side g q)) g in
    is_and (opposite (plane_side g p) (plane_side g q)) (is_inside w) (is_opposite (plane_side g p) (plane_side g q)) (is_inside_lem w)

is_pierces : (f g : Polygon) → Is (pierces f g) (RuleA f g)
unfolding pierces
is_pierces f g =
    is_side origin (λ p q. pierced g p q (plane_side g p) (plane_side g q)) f (EdgePierces g) (λ p q. is_pierced g p q)

-- ---- B

is_enters : (f g : Polygon) → Is (enters f g) (RuleB f g)
unfolding enters
is_enters f g =
    let test : Point → Bool = λ p. is_zero (plane_side g p) && is_inside (lies (exactly p) g) in (
      λ e.
          let r = any_yes test origin f e in
          let q = get_or f r.0 origin in
          let t = (is_and (is_zero (plane_side g q)) (is_inside (lies (exactly q) g)) (is_zero_lem (plane_side g q)) (is_inside_lem (lies (exactly q) g))
          ).0 r.2 in
          (r.0, r.1, t.0, t.1),
      λ r.
          let q = get_or f r.0 origin in
          any_is test origin f r.0 r.1
          ((is_and (is_zero (plane_side g q)) (is_inside (lies (exactly q) g)) (is_zero_lem (plane_side g q)) (is_inside_lem (lies (exactly q) g))).1
          (r.2, r.3)),
    )

-- ---- C

is_holds : (a b c : Bool) {A B C : Type 0} → Is a A → Is b B → Is c C
    → Is (angle_holds a b c) ((A × (B × C)) ⊎ ((A → ⊥) × (B ⊎ C)))
unfolding angle_holds
is_holds true b c {A} {B} {C} i j k = (
  λ e. inl (i.0 refl, (is_and b c j k).0 e),
  go,
)
  where
    go : (A × (B × C)) ⊎ ((A → ⊥) × (B ⊎ C)) → (b && c) ≡ true
    go (inl h) = (is_and b c j k).1 h.1
    go (inr h) = absurd (h.0 (i.0 refl))
is_holds false b c {A} {B} {C} i j k = (
  λ e. inr ((is_not false i).0 refl, (is_or b c j k).0 e),
  go,
)
  where
    go : (A × (B × C)) ⊎ ((A → ⊥) × (B ⊎ C)) → (b || c) ≡ true
    go (inl h) = absurd ((is_not false i).0 refl h.0)
    go (inr h) = (is_or b c j k).1 h.1

is_angle : (n a u b w : Point) → Is (in_angle n a u b w) (InAngle n a u b w)
unfolding in_angle
is_angle n a u b w =
    is_holds (above (det n (minus b u) (minus a u))) (above (det n (minus b u) w)) (above (det n w (minus a u)))
    (is_above (det n (minus b u) (minus a u))) (is_above (det n (minus b u) w)) (is_above (det n w (minus a u)))

module _ (g : Polygon) (two : 2 ≤ length g) (u v : Point) where
  abbrev turn_at : Side → Side → Bool
  turn_at = turns_at (normal g) u (minus v u)

  is_turn : (a p b : Point) → Is (turn_at (to a p) (to p b)) ((p ≡ u) × InAngle (normal g) a u b (minus v u))
  unfolding turns_at
  is_turn a p b = (
    λ e. let r = t.0 e in (r.0, subst (λ (x : Point). InAngle (normal g) a x b (minus v u)) r.0 r.1),
    λ r. t.1 (r.0, subst (λ (x : Point). InAngle (normal g) a x b (minus v u)) (sym r.0) r.1),
  )
    where
      t : Is (same_point p u && in_angle (normal g) a p b (minus v u)) ((p ≡ u) × InAngle (normal g) a p b (minus v u))
      t = is_and (same_point p u) (in_angle (normal g) a p b (minus v u)) (is_same p u) (is_angle (normal g) a p b (minus v u))

  -- two successive sides, by three corners
  turn_at_lem : (k : ℕ) → k < length g
      → turn_at (around (sides to g) k (to origin origin)) (around (sides to g) (k + 1) (to origin origin))
      ≡ turn_at (to (corner_at g k) (corner_at g (k + 1))) (to (corner_at g (k + 1)) (corner_at g (k + 2)))
  turn_at_lem k h =
      let z : k + 1 + 1 ≡ k + 2 = omega arith in
      let a = sides-around to g k (to origin origin) origin two (omega arith) in
      let b = sides-around to g (k + 1) (to origin origin) origin two (omega arith) in
      ap (λ (s : Side). turn_at s (around (sides to g) (k + 1) (to origin origin))) a
      ∙ ap (turn_at (to (corner_at g k) (corner_at g (k + 1)))) (b ∙ ap (λ (j : ℕ). to (corner_at g (k + 1)) (corner_at g j)) z)

  pub is_points : Is (points_in g u v) (PointsIn g u v)
  unfolding points_in
  is_points =
      let i = is_side (to origin origin) turn_at (sides to g) (λ s t. turn_at s t ≡ true) (λ s t. ((λ e. e), (λ e. e))) in (
        λ e.
            let r = i.0 e in
            let h : r.0 < length g = omega (arith, r.1, sides_length to g) in
            let t = (is_turn (corner_at g r.0) (corner_at g (r.0 + 1)) (corner_at g (r.0 + 2))).0 (sym (turn_at_lem r.0 h) ∙ r.2) in
            record { before = r.0; here = h; corner = t.0; angle = t.1 },
        λ p.
            i.1 (
              p.before,
              omega (arith, p.here, sides_length to g),
              turn_at_lem p.before p.here
                  ∙ (is_turn (corner_at g p.before) (corner_at g (p.before + 1)) (corner_at g (p.before + 2))).1 (p.corner, p.angle),
            ),
      )

is_corner_lem : (g : Polygon) (p : Point) → Is (is_corner g p) (Corner g p)
is_corner_lem g p = (corner_yes g p, λ r. yes_corner g r.0 p r.1 r.2)

pub is_plane : (f g : Polygon) → Is (one_plane f g) ((i : ℕ) → i < length g → plane_side f (get_or g i origin) ≡ pos 0)
unfolding one_plane
is_plane f g = (
  λ e i h. (is_zero_lem (plane_side f (get_or g i origin))).0 (all_yes (λ p. is_zero (plane_side f p)) origin g e i h),
  λ r. all_is (λ p. is_zero (plane_side f p)) origin g (λ i h. (is_zero_lem (plane_side f (get_or g i origin))).1 (r i h)),
)

module _ (f g : Polygon) (two-f : 2 ≤ length f) (two-g : 2 ≤ length g) where
  is_bends : (u v : Point)
      → Is (bends f g u v) (((Corner g v × (u ≡ v → ⊥)) × PointsIn f u v) × PointsIn g u v)
  unfolding bends
  is_bends u v =
      is_and (is_corner g v && not (same_point u v) && points_in f u v) (points_in g u v)
      (is_and (is_corner g v && not (same_point u v)) (points_in f u v)
      (is_and (is_corner g v) (not (same_point u v)) (is_corner_lem g v) (is_not (same_point u v) (is_same u v))) (is_points f two-f u v))
      (is_points g two-g u v)

  is_folds : Is (folds f g) (RuleC f g)
  unfolding folds
  is_folds = (
    λ e.
        let t = (is_and (not (one_plane f g)) (any (λ u. is_corner g u && any (bends f g u) f) f) (is_not (one_plane f g) (is_plane f g))
        ((λ e. e), (λ e. e))).0 e in
        let r = any_yes (λ u. is_corner g u && any (bends f g u) f) origin f t.1 in
        let u = get_or f r.0 origin in
        let s = (is_and (is_corner g u) (any (bends f g u) f) (is_corner_lem g u) ((λ e. e), (λ e. e))).0 r.2 in
        let q = any_yes (bends f g u) origin f s.1 in
        let v = get_or f q.0 origin in
        let w = (is_bends u v).0 q.2 in
        record {
          planes = t.0;
          u = u;
          v = v;
          differ = w.0.0.1;
          u_of = ((r.0, r.1, refl {a = u}), s.0);
          v_of = ((q.0, q.1, refl {a = v}), w.0.0.0);
          angles = (w.0.1, w.1);
        },
    λ r.
        let i = r.u_of.0 in
        let j = r.v_of.0 in
        (is_and (not (one_plane f g)) (any (λ u. is_corner g u && any (bends f g u) f) f) (is_not (one_plane f g) (is_plane f g))
        ((λ e. e), (λ e. e))).1 (
          r.planes,
          any_is (λ u. is_corner g u && any (bends f g u) f) origin f i.0 i.1
              (subst (λ (u : Point). (is_corner g u && any (bends f g u) f) ≡ true) (sym i.2)
              ((is_and (is_corner g r.u) (any (bends f g r.u) f) (is_corner_lem g r.u) ((λ e. e), (λ e. e))).1 (
                r.u_of.1,
                any_is (bends f g r.u) origin f j.0 j.1
                    (subst (λ (v : Point). bends f g r.u v ≡ true) (sym j.2)
                    ((is_bends r.u r.v).1 (((r.v_of.1, r.differ), r.angles.0), r.angles.1))),
              ))),
        ),
  )

  pub is_clash : Is (clash f g) (ClashOf f g)
  unfolding clash
  is_clash =
      is_to _
      (is_or (pierces f g || pierces g f || (enters f g || enters g f)) (folds f g)
      (is_or (pierces f g || pierces g f) (enters f g || enters g f)
      (is_or (pierces f g) (pierces g f) (is_pierces f g) (is_pierces g f)) (is_or (enters f g) (enters g f) (is_enters f g) (is_enters g f)))
      is_folds) there back
    where
      there : ((RuleA f g ⊎ RuleA g f) ⊎ (RuleB f g ⊎ RuleB g f)) ⊎ RuleC f g → ClashOf f g
      there (inl (inl (inl x))) = ClashOf.by_a x
      there (inl (inl (inr x))) = ClashOf.by_a_back x
      there (inl (inr (inl x))) = ClashOf.by_b x
      there (inl (inr (inr x))) = ClashOf.by_b_back x
      there (inr x) = ClashOf.by_c x

      back : ClashOf f g → ((RuleA f g ⊎ RuleA g f) ⊎ (RuleB f g ⊎ RuleB g f)) ⊎ RuleC f g
      back (ClashOf.by_a x) = inl (inl (inl x))
      back (ClashOf.by_a_back x) = inl (inl (inr x))
      back (ClashOf.by_b x) = inl (inr (inl x))
      back (ClashOf.by_b_back x) = inl (inr (inr x))
      back (ClashOf.by_c x) = inr x

-- a loop's polygon has as many corners
pub two_corners : (d : Wire) (l : Loop) → 3 ≤ length l → 2 ≤ length (polygon d l)
two_corners d l h = omega (arith, polygon_length d l)
